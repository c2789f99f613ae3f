-- One round, and any number of them. Assumes nothing.
use Rattle.std.proofs.Common.{◌≡◌, ℕ, zero, suc, ◌<◌, ◌≤◌, Bool, true, false, ◌&&◌, ◌||◌, List, ℤ, pos, ◌+ℤ◌, ◌≤ℤ◌, ◌<ℤ◌, sym, refl, ap, ◌∙◌, subst, inl, inr, arith}
use Rattle.std.proofs.lemmas.Int.{ints}
use Rattle.scale.specs.Algebra.{Algebra}
use Rattle.network.specs.Lists.{◌≼◌, Row}
use Rattle.model.specs.declared.bench.Window.{Window}
use Rattle.model.specs.declared.state.State.{State}
use Rattle.model.specs.declared.state.State.TheVariants.{Open, InStep, Impossible}
use Rattle.model.specs.Plans.{Hall, Model, starts, cut_by, fallen, unmoved, verdict, round, Rounds, spare, slack, slack_in}
use Rattle.model.specs.Sheets.{Sheet, Keeps, Fits, own_sheet}
use Rattle.model.specs.Calls.{Advanced}
use Rattle.model.proofs.Order.{≼_of_eq, same_list_true}
use Rattle.std.proofs.lemmas.Bool.{and_parts, and_cases, or_cases, or_parts}
use Rattle.model.proofs.Tables.{cut_windows, cut_keeps, fallen_none, cut_spare, cut_falls, keeps_spare}
use Rattle.model.proofs.Halves.{half_row, half_arrives, half_above}
use Rattle.model.proofs.Invariant.{Core, Good, row_of, open_possible}

-- ---- what the verdict says

verdict_possible : (f r : Bool) → ¬ (verdict f r ≡ Impossible) → f ≡ false
verdict_possible true r n = absurd (n refl)
verdict_possible false r n = refl

verdict_step : (f r : Bool) → verdict f r ≡ InStep → r ≡ true
verdict_step true r e = cc
verdict_step false true e = refl
verdict_step false false e = cc

verdict_impossible : (f r : Bool) → verdict f r ≡ Impossible → f ≡ true
verdict_impossible true r e = refl
verdict_impossible false true e = cc
verdict_impossible false false e = cc

verdict_open : (f r : Bool) → verdict f r ≡ Open → r ≡ false
verdict_open true r e = cc
verdict_open false true e = cc
verdict_open false false e = refl

-- ---- one round

pub round_sheet : (p : Model) → own_sheet (round p) ≡ own_sheet p
unfolding round
round_sheet p = λ i. record {
  left = record { network = p.left.network; windows = cut_windows p.left.table (p.left.network.latest (p.right.network.arrivals (starts (cut_by p.right p.left).table))) i };
  right = record { network = p.right.network; windows = cut_windows p.right.table (p.right.network.latest (p.left.network.arrivals (starts p.left.table))) i };
}

module _ (σ : Algebra) (p : Model) (c : Good σ p) (o : p.state ≡ Open) where
  can : ¬ (p.state ≡ Impossible)
  can = open_possible p.state o

  row_l : Row σ p.left.network.benches (starts p.left.table)
  row_l = row_of σ (own_sheet p).left (starts p.left.table) c.sound.left (c.left_keeps can)

  row_r : Row σ p.right.network.benches (starts p.right.table)
  row_r = row_of σ (own_sheet p).right (starts p.right.table) c.sound.right (c.right_keeps can)

  abbrev right' : Hall
  right' = cut_by p.right p.left

  abbrev left' : Hall
  left' = cut_by p.left right'

  row_r' : Row σ p.right.network.benches (starts right'.table)
  row_r' = half_row σ p.right.network p.left.network c.sound.right.lawful c.sound.left.lawful c.sound.level p.right.table p.left.table row_r row_l

  arrives_r : p.right.network.arrivals (starts right'.table) ≼ p.left.network.arrivals (starts p.left.table)
  arrives_r = half_arrives σ p.right.network p.left.network c.sound.right.lawful c.sound.left.lawful c.sound.level p.right.table p.left.table row_r row_l

  arrives_l : p.left.network.arrivals (starts left'.table) ≼ p.right.network.arrivals (starts right'.table)
  arrives_l = half_arrives σ p.left.network p.right.network c.sound.left.lawful c.sound.right.lawful (sym c.sound.level) p.left.table right'.table row_l row_r'

  -- no list that fits is lost
  above_r : (x y : List ℤ) → Fits (own_sheet p) x y → y ≼ starts right'.table
  above_r x y f =
      half_above σ p.right.network p.left.network c.sound.right.lawful c.sound.left.lawful c.sound.level p.right.table p.left.table row_r row_l
      y x (row_of σ (own_sheet p).right y c.sound.right f.right_keeps) (row_of σ (own_sheet p).left x c.sound.left f.left_keeps)
      (c.above can x y f).1 (c.above can x y f).0 (≼_of_eq (p.right.network.arrivals y) (p.left.network.arrivals x) (sym f.together))

  above_l : (x y : List ℤ) → Fits (own_sheet p) x y → x ≼ starts left'.table
  above_l x y f =
      half_above σ p.left.network p.right.network c.sound.left.lawful c.sound.right.lawful (sym c.sound.level) p.left.table right'.table row_l row_r'
      x y (row_of σ (own_sheet p).left x c.sound.left f.left_keeps) (row_of σ (own_sheet p).right y c.sound.right f.right_keeps)
      (c.above can x y f).0 (above_r x y f) (≼_of_eq (p.left.network.arrivals x) (p.right.network.arrivals y) f.together)

  kept : ¬ (verdict (fallen left'.table || fallen right'.table) (unmoved p.left left' && unmoved p.right right') ≡ Impossible) → (fallen left'.table ≡ false) × (fallen right'.table ≡ false)
  kept n = or_parts (fallen left'.table) (fallen right'.table) (verdict_possible _ (unmoved p.left left' && unmoved p.right right') n)

  pub round_core : Core σ (own_sheet p) (round p)
  unfolding round
  round_core = record {
    sound = c.sound;
    left_keeps = λ n. cut_keeps p.left.table _ (c.left_keeps can) (kept n).0;
    right_keeps = λ n. cut_keeps p.right.table _ (c.right_keeps can) (kept n).1;
    above = λ n x y f. (above_l x y f, above_r x y f);
    meets = λ e.
        let rest = and_parts (unmoved p.left left') (unmoved p.right right') (verdict_step (fallen left'.table || fallen right'.table) (unmoved p.left left' && unmoved p.right right') e) in
        let same = same_list_true (starts p.left.table) (starts left'.table) rest.0 in
        record {
          left_first = arrives_l;
          right_first = subst (λ (x : List ℤ). p.right.network.arrivals (starts right'.table) ≼ p.left.network.arrivals x) same arrives_r;
        };
    none = λ e x y f.
        elim (or_cases (fallen left'.table) (fallen right'.table) (verdict_impossible (fallen left'.table || fallen right'.table) (unmoved p.left left' && unmoved p.right right') e)) [
          | inl l ↦ fallen_none left'.table x l (subst (λ (ws : List Window). Keeps ws x) (sym (cut_windows p.left.table _)) f.left_keeps) (above_l x y f)
          | inr r ↦ fallen_none right'.table y r (subst (λ (ws : List Window). Keeps ws y) (sym (cut_windows p.right.table _)) f.right_keeps) (above_r x y f)
        ];
  }

  pub round_good : Good σ (round p)
  round_good = subst (λ (s : Sheet). Core σ s (round p)) (sym (round_sheet p)) round_core

  -- a round that leaves the plan open lowers the slack
  pub round_falls : (round p).state ≡ Open → slack (round p) <ℤ slack p
  unfolding round
  round_falls e =
      let l = spare p.left.table in
      let r = spare p.right.table in
      let l' = spare left'.table in
      let r' = spare right'.table in
      let moved = verdict_open (fallen left'.table || fallen right'.table) (unmoved p.left left' && unmoved p.right right') e in
      let falls : (l' +ℤ r') <ℤ (l +ℤ r) =
      elim (and_cases (unmoved p.left left') (unmoved p.right right') moved) [
        | inl a ↦ left_falls l l' r r' (cut_falls p.left.table _ a) (cut_spare p.right.table _)
        | inr b ↦ right_falls l l' r r' (cut_spare p.left.table _) (cut_falls p.right.table _ b)
      ] in
      subst (λ (z : ℤ). z <ℤ slack p) (sym (ap (λ (t : State). slack_in t (round p)) e)) (subst (λ (z : ℤ). (l' +ℤ r') <ℤ z) (sym (ap (λ (t : State). slack_in t p) o)) falls)
    where
      left_falls : (l l' r r' : ℤ) → l' <ℤ l → r' ≤ℤ r → (l' +ℤ r') <ℤ (l +ℤ r)
      left_falls l l' r r' h k = omega (arith, ints)

      right_falls : (l l' r r' : ℤ) → l' ≤ℤ l → r' <ℤ r → (l' +ℤ r') <ℤ (l +ℤ r)
      right_falls l l' r r' h k = omega (arith, ints)

-- ---- many rounds

pub slack_least : (σ : Algebra) (p : Model) → Good σ p → p.state ≡ Open → pos 0 ≤ℤ slack p
slack_least σ p c o =
    let can = open_possible p.state o in
    subst (λ (z : ℤ). pos 0 ≤ℤ z) (sym (ap (λ (t : State). slack_in t p) o)) (add (spare p.left.table) (spare p.right.table) (keeps_spare p.left.table (c.left_keeps can)) (keeps_spare p.right.table (c.right_keeps can)))
  where
    add : (a b : ℤ) → pos 0 ≤ℤ a → pos 0 ≤ℤ b → pos 0 ≤ℤ (a +ℤ b)
    add a b h k = omega (arith, ints)

pub rounds_sheet : (k : ℕ) (p q : Model) → Rounds k p q → own_sheet q ≡ own_sheet p
rounds_sheet zero p q e = ap own_sheet e
rounds_sheet (suc k) p q r = rounds_sheet k (round p) q r.1 ∙ round_sheet p

pub rounds_good : (σ : Algebra) (k : ℕ) (p q : Model) → Good σ p → Rounds k p q → Good σ q
rounds_good σ zero p q c e = subst (λ (r : Model). Good σ r) (sym e) c
rounds_good σ (suc k) p q c r = rounds_good σ k (round p) q (round_good σ p c r.0) r.1

rounds_open : (k : ℕ) (p q : Model) → Rounds k p q → q.state ≡ Open → p.state ≡ Open
rounds_open zero p q e o = ap (λ (r : Model). r.state) (sym e) ∙ o
rounds_open (suc k) p q r o = r.0

-- as long as the plan stays open, each round takes one of the slack at least
pub rounds_slack : (σ : Algebra) (k : ℕ) (p q : Model) → Good σ p → Rounds k p q → q.state ≡ Open → (slack q +ℤ pos k) ≤ℤ slack p
rounds_slack σ zero p q c e o = subst (λ (r : Model). (slack r +ℤ pos 0) ≤ℤ slack p) (sym e) (none (slack p))
  where
    none : (a : ℤ) → (a +ℤ pos 0) ≤ℤ a
    none a = omega (arith, ints)
rounds_slack σ (suc k) p q c r o =
    more (slack q) (slack (round p)) (slack p) k (rounds_slack σ k (round p) q (round_good σ p c r.0) r.1 o) (round_falls σ p c r.0 (rounds_open k (round p) q r.1 o))
  where
    more : (a b d : ℤ) (k : ℕ) → (a +ℤ pos k) ≤ℤ b → b <ℤ d → (a +ℤ pos (suc k)) ≤ℤ d
    more a b d k h l = omega (arith, ints)

-- granted more rounds than the slack, an advance decides
pub advance_decides : (σ : Algebra) (p q : Model) (n k : ℕ) (t : State) → Good σ p → Advanced p n t k q → slack p <ℤ pos n → ¬ (q.state ≡ Open)
advance_decides σ p q n k t c a l e =
    run_out (slack q) (slack p) n k (rounds_slack σ k p q c a.made e) (slack_least σ q (rounds_good σ k p q c a.made) e) l (not_less k n (λ h. a.stops h e))
  where
    not_less : (k n : ℕ) → ¬ (k < n) → n ≤ k
    not_less k n h = omega arith

    run_out : (a b : ℤ) (n k : ℕ) → (a +ℤ pos k) ≤ℤ b → pos 0 ≤ℤ a → b <ℤ pos n → n ≤ k → ⊥
    run_out a b n k h g l m = omega (arith, ints)
