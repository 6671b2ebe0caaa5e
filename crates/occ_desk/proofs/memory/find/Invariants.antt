use Rattle.std.proofs.Common.{◌≡◌, drop, map, string_bytes}
use Rattle.occ_desk.specs.MemoryDesk.{file_of}
use Rattle.occ_desk.proofs.memory.find.Given as goal

abbrev pub invariant-loop-file : goal.invariant-loop-file
invariant-loop-file l =
    file_of (map (λ file. (string_bytes file.name, file.bytes.items)) (drop l.file-index l.files)) l.name
    ≡ file_of (map (λ file. (string_bytes file.name, file.bytes.items)) l.files) l.name
