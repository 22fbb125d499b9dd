-- The error of value × reciprocal against S / (quantizer·2^32), term by term, in units of 2^-40 (docs/PROOFS.md has the table).
use Rattle.std.specs.Prelude.{ℕ, ◌+◌, ◌*◌, ◌^◌, ◌≤◌, ℤ, pos, nat_abs, ◌-ℤ◌, ◌*ℤ◌}

-- x / m and y / n are at most e units apart
pub record Apart (x : ℤ) (m : ℕ) (y : ℤ) (n e : ℕ) : Type 0 where
  pub within : nat_abs (x *ℤ pos n -ℤ y *ℤ pos m) * 2 ^ 40 ≤ e * (m * n)

-- "The 2^-19 guard is the only slack available"
abbrev pub guard_units : ℕ
guard_units = 2 ^ 21

-- the basis against the exact form of the two passes: at 64 places a sample of at most 128 times half a unit of 2^-32
abbrev pub basis_units : ℕ
basis_units = 2 ^ 20

-- the roundings of both passes, 313·2^-33 at most in a value, times a reciprocal of at most 3
abbrev pub passes_units : ℕ
passes_units = 3 * 40064

-- the reciprocal, 4 units off at most, times a value of at most 13056
abbrev pub reciprocal_units : ℕ
reciprocal_units = 13056 * 4

-- the product of the two, below 2^20 in absolute value: 2^-33
abbrev pub product_units : ℕ
product_units = 128

abbrev pub error_units : ℕ
error_units = product_units + passes_units + reciprocal_units + basis_units
