-- Minutes: ordinary values from -Q to Q, void below them and open above. Assumes nothing.
use Rattle.std.specs.Prelude.{if◌then◌else◌, ℤ, pos, ◌+ℤ◌, ◌-ℤ◌, neg_ℤ, Some, None, Option, int_lt}
use Rattle.scale.specs.Algebra.{Algebra, clamped}

abbrev pub Q : ℤ
Q = pos 1_000_000_000

abbrev pub void : ℤ
void = neg_ℤ (pos 1_000_000_001)

abbrev pub open' : ℤ
open' = pos 1_000_000_001

-- what is said of void, of open and of an ordinary value
abbrev pub by_kind : ℤ → ℤ → ℤ → ℤ → ℤ
by_kind x at_void at_open ordinary = if int_lt x (neg_ℤ Q) then at_void else if int_lt Q x then at_open else ordinary

abbrev pub minutes_product : Option ℤ → ℤ → ℤ
minutes_product None x = void
minutes_product (Some a) x = by_kind x void open' (clamped (neg_ℤ Q) Q (a +ℤ x))

-- a difference above Q becomes Q, one below -Q becomes void
abbrev pub difference : ℤ → ℤ
difference d = if int_lt Q d then Q else if int_lt d (neg_ℤ Q) then void else d

abbrev pub minutes_quotient : Option ℤ → ℤ → ℤ
minutes_quotient None b = open'
minutes_quotient (Some a) b = by_kind b void open' (if int_lt b Q then difference (b -ℤ a) else Q)

abbrev pub minutes : Algebra
minutes = record {
  lowest = void;
  highest = open';
  least_window = neg_ℤ (pos 1_000_000);
  greatest_window = pos 1_000_000;
  least_coefficient = neg_ℤ (pos 1_000_000);
  greatest_coefficient = pos 1_000_000;
  product = minutes_product;
  quotient = minutes_quotient;
}
