pub use Rattle.occ_check_text.specs as occ_check_text
