-- The order of whole numbers, the smaller and the larger of two. Assumes nothing.
use Rattle.std.proofs.Common.{◌≡◌, ℤ, ◌≤ℤ◌, ◌<ℤ◌, arith}
use Rattle.std.specs.Int.{int_max, int_min}
use Rattle.std.proofs.lemmas.Int.{ints, clamps, by_lt_z}

pub ≤_refl : (a : ℤ) → a ≤ℤ a
≤_refl a = omega (arith, ints)

pub ≤_trans : (a b c : ℤ) → a ≤ℤ b → b ≤ℤ c → a ≤ℤ c
≤_trans a b c h k = omega (arith, ints)

pub ≤_antisym : (a b : ℤ) → a ≤ℤ b → b ≤ℤ a → a ≡ b
≤_antisym a b h k = omega (arith, ints)

pub not_lt : (a b : ℤ) → ¬ (a <ℤ b) → b ≤ℤ a
not_lt a b h = by_lt_z a b (λ l. absurd (h l)) (λ l. l)

pub max_left : (a b : ℤ) → a ≤ℤ int_max a b
max_left a b = omega (arith, ints, clamps)

pub max_right : (a b : ℤ) → b ≤ℤ int_max a b
max_right a b = omega (arith, ints, clamps)

pub max_least : (a b c : ℤ) → a ≤ℤ c → b ≤ℤ c → int_max a b ≤ℤ c
max_least a b c h k = omega (arith, ints, clamps)

pub min_left : (a b : ℤ) → int_min a b ≤ℤ a
min_left a b = omega (arith, ints, clamps)

pub min_right : (a b : ℤ) → int_min a b ≤ℤ b
min_right a b = omega (arith, ints, clamps)

pub min_above : (a b c : ℤ) → c ≤ℤ a → c ≤ℤ b → c ≤ℤ int_min a b
min_above a b c h k = omega (arith, ints, clamps)
