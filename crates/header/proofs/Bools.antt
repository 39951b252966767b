-- Laws of tests, handed on to crates that stand on this one and not on `integers`.
pub use Rattle.integers.proofs.Bools.{by, and_left, and_right, and_both, or_left, or_right, or_cases, not_yes}
