pub use Rattle.occ_check_find.specs.occ_check_text as occ_check_text
