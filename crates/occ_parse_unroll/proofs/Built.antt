-- Lines that are put together one by one.
use Rattle.std.proofs.Common.{[]}
