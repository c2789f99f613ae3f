-- The laws of an advance, and of solving again. Assumes nothing.
use Rattle.std.proofs.Common.{◌≡◌, ℕ, zero, suc, ◌+◌, ◌<◌, ◌≤◌, Bool, false, cond, List, [], ◌∷◌, map, get_or, ℤ, pos, ◌≤ℤ◌, ◌<ℤ◌, sym, refl, ap, ◌∙◌, subst, ⊎_elim, zero-add, arith}
use lib.Signed.{lt_z}
use Rattle.std.proofs.lemmas.Int.{ints}
use Rattle.std.proofs.lemmas.Bool.{cases_lt}
use Rattle.scale.specs.Algebra.{Algebra, LawfulScale}
use Rattle.network.specs.Checks.{accepted}
use Rattle.model.specs.declared.bench.Bench.{Bench}
use Rattle.model.specs.declared.state.State.{State}
use Rattle.model.specs.declared.state.State.TheVariants.{Open, InStep}
use Rattle.model.specs.Plans.{Model, round, Rounds, slack}
use Rattle.model.specs.Sheets.{Sheet, own_sheet, fresh}
use Rattle.model.specs.Calls.{no_bench, bench_of, change_at, lower_bench, lowered, adopt_bench, adopted, Lowered, Advanced, Adopted}
use Rattle.model.specs.Runs.{History, Run}
use Rattle.model.specs.Laws.{SameStarts, SolvingAgain}
use Rattle.model.proofs.Tables.{lower_same, adopt_starts}
use Rattle.model.proofs.Invariant.{Core, Good, lefts, rights, core_greatest, fresh_core, fresh_sheet, open_not_step, decided_state, step_of}
use Rattle.model.proofs.Round.{rounds_sheet, rounds_good, advance_decides}
use Rattle.model.proofs.Stands.{greatest_unique, holds}

-- ---- advances

same_end : (n k k' : ℕ) (p q q' : Model) → Rounds k p q → Rounds k' p q' → k ≤ n → k' ≤ n → (k < n → ¬ (q.state ≡ Open)) → (k' < n → ¬ (q'.state ≡ Open)) → (k ≡ k') × (q ≡ q')
same_end n zero zero p q q' r r' l l' s s' = (refl, r ∙ sym r')
same_end n zero (suc k') p q q' r r' l l' s s' = absurd (s (omega arith) (ap (λ (z : Model). z.state) r ∙ r'.0))
same_end n (suc k) zero p q q' r r' l l' s s' = absurd (s' (omega arith) (ap (λ (z : Model). z.state) r' ∙ r.0))
same_end zero (suc k) (suc k') p q q' r r' l l' s s' = absurd (omega arith)
same_end (suc n) (suc k) (suc k') p q q' r r' l l' s s' =
    let e = same_end n k k' (round p) q q' r.1 r'.1 (omega arith) (omega arith) (λ h. s (omega arith)) (λ h. s' (omega arith)) in
    (ap suc e.0, e.1)

determined : (p q q' : Model) (n k k' : ℕ) (t t' : State) → Advanced p n t k q → Advanced p n t' k' q' → (k ≡ k') × (t ≡ t') × (q ≡ q')
determined p q q' n k k' t t' a b =
    let e = same_end n k k' p q q' a.made b.made a.granted b.granted a.stops b.stops in
    (e.0, a.told ∙ ap (λ (z : Model). z.state) e.1 ∙ sym b.told, e.1)

rounds_on : (k l : ℕ) (p q r : Model) → Rounds k p q → Rounds l q r → Rounds (k + l) p r
rounds_on zero l p q r e s = subst (λ (n : ℕ). Rounds n p r) (sym (zero-add l)) (subst (λ (z : Model). Rounds l z r) e s)
rounds_on (suc k) l p q r e s =
    let n : suc k + l ≡ suc (k + l) = omega arith in
    subst (λ (m : ℕ). Rounds m p r) (sym n) (e.0, rounds_on k l (round p) q r e.1 s)

-- a plan that is not open stays
rests : (l : ℕ) (q r : Model) → Rounds l q r → ¬ (q.state ≡ Open) → r ≡ q
rests zero q r e n = e
rests (suc l) q r e n = absurd (n e.0)

additive : (p q r : Model) (m n k l : ℕ) (t u : State) → Advanced p m t k q → Advanced q n u l r → Advanced p (m + n) u (k + l) r
additive p q r m n k l t u a b = record {
  made = rounds_on k l p q r a.made b.made;
  granted = omega (arith, a.granted, b.granted);
  stops = λ h. ⊎_elim
      (λ less. b.stops less)
      (λ all. let less : k < m = omega (arith, b.granted) in
      let shut = a.stops less in
      λ e. shut (ap (λ (z : Model). z.state) (sym (rests l q r b.made shut)) ∙ e))
      (cases_lt l n);
  told = b.told;
}

idle : (p q : Model) (n k : ℕ) (t : State) → p.state ≡ InStep → Advanced p n t k q → (k ≡ 0) × (t ≡ InStep) × (q ≡ p)
idle p q n zero t s a = (refl, a.told ∙ ap (λ (z : Model). z.state) a.made ∙ s, a.made)
idle p q n (suc k) t s a = absurd (open_not_step p.state a.made.0 s)

-- ---- adopt, and a lower that cuts nothing

not_cut : (s v : ℤ) → s ≤ℤ v → lt_z v s ≡ false
not_cut s v h = grind (arith, ints)

adopt_at : (bs : List Bench) (i : ℕ) → (get_or (map adopt_bench bs) i no_bench).start ≡ (get_or bs i no_bench).start
adopt_at [] i = refl
adopt_at (b ∷ bs) zero = refl
adopt_at (b ∷ bs) (suc i) = adopt_at bs i

adopt_bench_at : (p : Model) (s i : ℕ) → (bench_of (adopted p) s i).start ≡ (bench_of p s i).start
adopt_bench_at p zero i = adopt_at p.left.table i
adopt_bench_at p (suc zero) i = adopt_at p.right.table i
adopt_bench_at p (suc (suc s)) i = refl

change_same : (p : Model) (s i : ℕ) (v : ℤ) → lt_z v (bench_of p s i).start ≡ false → SameStarts p (change_at p s i (lower_bench v))
change_same p zero i v e = record { lefts = lower_same no_bench v i p.left.table e; rights = refl }
change_same p (suc zero) i v e = record { lefts = refl; rights = lower_same no_bench v i p.right.table e }
change_same p (suc (suc s)) i v e = record { lefts = refl; rights = refl }

adopted_lower : (σ : Algebra) (p q r : Model) (s i : ℕ) (v : ℤ) → Adopted p accepted q → Lowered σ q s i v accepted r → (bench_of p s i).start ≤ℤ v →
    (r.state ≡ InStep) × SameStarts p r
adopted_lower σ p q r s i v a l h =
    let step = step_of p.state a.0.0 in
    let e : r ≡ lowered (adopted p) s i v = l.1 ∙ ap (λ (z : Model). lowered z s i v) a.1 in
    let stays : lt_z v (bench_of (adopted p) s i).start ≡ false = not_cut (bench_of (adopted p) s i).start v (subst (λ (z : ℤ). z ≤ℤ v) (sym (adopt_bench_at p s i)) h) in
    let same = change_same (adopted p) s i v stays in (
      ap (λ (z : Model). z.state) e ∙ ap (λ (b : Bool). cond b Open p.state) stays ∙ step,
      record {
        lefts = ap lefts e ∙ same.lefts ∙ adopt_starts p.left.table;
        rights = ap rights e ∙ same.rights ∙ adopt_starts p.right.table;
      },
    )

-- ---- a fresh start over the sheet of a plan in step

fresh_again : (σ : Algebra) → LawfulScale σ → (h : History) (p q : Model) (n k : ℕ) (t : State) → Run σ h p → p.state ≡ InStep →
    Advanced (fresh (own_sheet p)) n t k q → slack (fresh (own_sheet p)) <ℤ pos n → (q.state ≡ InStep) × SameStarts p q
fresh_again σ ok h p q n k t run step a enough =
    let s = own_sheet p in
    let c = (holds σ ok run).good in
    let start : Good σ (fresh s) = subst (λ (z : Sheet). Core σ z (fresh s)) (sym (fresh_sheet s)) (fresh_core σ s c.sound) in
    let g = rounds_good σ k (fresh s) q start a.made in
    let same : own_sheet q ≡ s = rounds_sheet k (fresh s) q a.made ∙ fresh_sheet s in
    let greatest = core_greatest σ s p c step in
    let fits = greatest.fits in
    let core : Core σ s q = subst (λ (z : Sheet). Core σ z q) same g in
    let in_step = decided_state q.state (advance_decides σ (fresh s) q n k t start a enough) (λ e. core.none e (lefts p) (rights p) fits) in
    let both = greatest_unique s (lefts q) (rights q) (lefts p) (rights p) (core_greatest σ s q core in_step) greatest in
    (in_step, record { lefts = both.0; rights = both.1 })

pub solving_again : SolvingAgain
solving_again = (
  record { determined = determined; additive = additive; idle = idle },
  λ σ ok. record { adopted_lower = adopted_lower σ; fresh_again = fresh_again σ ok },
)
