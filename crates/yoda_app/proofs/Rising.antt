-- Counts that rise.
use Rattle.std.proofs.Common.{ℕ, ◌≤◌, arith}
use Rattle.common.specs.Causes.{Rose}

pub rose_since : (before mid now : ℕ) → before ≤ mid → Rose mid now → Rose before now
rose_since before mid now later rose = omega arith

pub rose_until : (before mid now : ℕ) → Rose before mid → mid ≤ now → Rose before now
rose_until before mid now rose later = omega arith
