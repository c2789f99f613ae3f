-- Changes of one bench, as the code makes them. Assumes nothing.
use Rattle.std.proofs.Common.{◌≡◌, ℕ, zero, suc, ◌<◌, ◌≤◌, cond, List, [], ◌∷◌, ◌++◌, map, length, get_or, set, ℤ, sym, refl, ap, ◌∙◌, subst, ap₂, inr, arith}
use lib.Signed.{lt_z}
use Rattle.scale.specs.Algebra.{Algebra}
use Rattle.network.specs.Networks.{Meaning}
use Rattle.network.specs.Checks.{accepted, refused, Check, check, Checked}
use Rattle.model.specs.declared.bench.Bench.{Bench}
use Rattle.model.specs.declared.state.State.{State}
use Rattle.model.specs.declared.state.State.TheVariants.{Open, Impossible}
use Rattle.model.specs.Plans.{Hall, Model}
use Rattle.model.specs.Sheets.{window, fresh_bench, own_sheet, fresh, alter, put_both}
use Rattle.model.specs.Calls.{no_bench, NoBench, table_of, bench_of, change_at, in_state, ceiling_checks, floor_checks, window_value_checks, wider_checks, lower_bench, raise_bench, Changes, Lowered, Raised, Loosened}
use Rattle.model.proofs.Steps.{sheet_change}
use Rattle.benches.specs.Records.{renew_bench}

abbrev pub plan : Hall → Hall → State → Model
plan l r t = record { left = l; right = r; state = t }

-- ---- one record in the place of another

alter_set : {A : Type 0} (i : ℕ) (f : A → A) (xs : List A) (d : A) → alter i f xs ≡ set xs i (f (get_or xs i d))
alter_set i f [] d = refl
alter_set zero f (x ∷ xs) d = refl
alter_set {A} (suc i) f (x ∷ xs) d = ap {B = List A} (λ r. x ∷ r) (alter_set i f xs d)

pub put_left : (l r l' : Hall) (t : State) (s i : ℕ) (row : Bench) → s ≡ 0 → l'.network ≡ l.network → l'.table ≡ set l.table i row →
    plan l' r t ≡ change_at (plan l r t) s i (λ _. row)
put_left l r l' t zero i row z m e = ap₂ (λ (n : Meaning) (bs : List Bench). plan (record { network = n; table = bs }) r t) m (e ∙ sym (alter_set i (λ _. row) l.table no_bench))
put_left l r l' t (suc s) i row z m e = absurd (omega arith)

pub put_right : (l r r' : Hall) (t : State) (s i : ℕ) (row : Bench) → s ≡ 1 → r'.network ≡ r.network → r'.table ≡ set r.table i row →
    plan l r' t ≡ change_at (plan l r t) s i (λ _. row)
put_right l r r' t zero i row z m e = absurd (omega arith)
put_right l r r' t (suc zero) i row z m e = ap₂ (λ (n : Meaning) (bs : List Bench). plan l (record { network = n; table = bs }) t) m (e ∙ sym (alter_set i (λ _. row) r.table no_bench))
put_right l r r' t (suc (suc s)) i row z m e = absurd (omega arith)

-- ---- the same by a function of the record that stood there

alter_at : (i : ℕ) (f : Bench → Bench) (bs : List Bench) → alter i (λ _. f (get_or bs i no_bench)) bs ≡ alter i f bs
alter_at i f bs = alter_set i (λ _. f (get_or bs i no_bench)) bs no_bench ∙ sym (alter_set i f bs no_bench)

change_by : (p : Model) (s i : ℕ) (f : Bench → Bench) → change_at p s i (λ _. f (bench_of p s i)) ≡ change_at p s i f
change_by p zero i f = ap (λ (l : List Bench). plan (record { network = p.left.network; table = l }) p.right p.state) (alter_at i f p.left.table)
change_by p (suc zero) i f = ap (λ (l : List Bench). plan p.left (record { network = p.right.network; table = l }) p.state) (alter_at i f p.right.table)
change_by p (suc (suc s)) i f = refl

changed : (p p' : Model) (s i : ℕ) (b row : Bench) (f : Bench → Bench) (t t' : State) → b ≡ bench_of p s i → row ≡ f b → p' ≡ change_at p s i (λ _. row) → t ≡ t' →
    in_state t p' ≡ in_state t' (change_at p s i f)
changed p p' s i b row f t t' e r c u =
    ap (λ (z : State). in_state z p') u
    ∙ ap (in_state t') (c ∙ ap (λ (z : Bench). change_at p s i (λ _. z)) (r ∙ ap f e) ∙ change_by p s i f)

-- ---- the bench is there, and then the other checks run

not_past : (n i : ℕ) → i < n → n ≤ i → ⊥
not_past n i l h = omega arith

-- a call that is turned away by the checks on its bench
pub bench_refused : (p p' : Model) (s i : ℕ) (cs : Bench → List (Check ℕ)) (b : Bench) (n : ℕ) → i < length (table_of p s) → b ≡ bench_of p s i → Checked (cs b) (refused n) →
    Changes (check 10 (NoBench p s i) ∷ cs (bench_of p s i)) p p' (refused n) p
bench_refused p p' s i cs b n l e k = (inr (not_past (length (table_of p s)) i l, subst (λ (z : Bench). Checked (cs z) (refused n)) e k), refl)

bench_checked : (p : Model) (s i : ℕ) (cs : Bench → List (Check ℕ)) (b : Bench) → i < length (table_of p s) → b ≡ bench_of p s i → Checked (cs b) accepted →
    Checked (check 10 (NoBench p s i) ∷ cs (bench_of p s i)) accepted
bench_checked p s i cs b l e k = (not_past (length (table_of p s)) i l, subst (λ (z : Bench). Checked (cs z) accepted) e k)

pub lower_accepted : (σ : Algebra) (p p' : Model) (s i : ℕ) (v : ℤ) (b row : Bench) (t : State) → i < length (table_of p s) → b ≡ bench_of p s i → Checked (ceiling_checks σ p.state b v) accepted →
    row ≡ lower_bench v b → p' ≡ change_at p s i (λ _. row) → t ≡ cond (lt_z v b.start) Open p.state → Lowered σ p s i v accepted (in_state t p')
lower_accepted σ p p' s i v b row t l e k r c u = (
  bench_checked p s i (λ z. ceiling_checks σ p.state z v) b l e k,
  changed p p' s i b row (lower_bench v) t (cond (lt_z v (bench_of p s i).start) Open p.state) e r c (u ∙ ap (λ (z : Bench). cond (lt_z v z.start) Open p.state) e),
)

pub raise_accepted : (σ : Algebra) (p p' : Model) (s i : ℕ) (v : ℤ) (b row : Bench) (t : State) → i < length (table_of p s) → b ≡ bench_of p s i → Checked (floor_checks σ p.state b v) accepted →
    row ≡ raise_bench v b → p' ≡ change_at p s i (λ _. row) → t ≡ cond (lt_z b.start v) Impossible p.state → Raised σ p s i v accepted (in_state t p')
raise_accepted σ p p' s i v b row t l e k r c u = (
  bench_checked p s i (λ z. floor_checks σ p.state z v) b l e k,
  changed p p' s i b row (raise_bench v) t (cond (lt_z (bench_of p s i).start v) Impossible p.state) e r c (u ∙ ap (λ (z : Bench). cond (lt_z z.start v) Impossible p.state) e),
)

pub loosen_accepted : (σ : Algebra) (p q : Model) (s i : ℕ) (f c : ℤ) (b row : Bench) → i < length (table_of p s) → b ≡ bench_of p s i →
    Checked (window_value_checks σ f c ++ wider_checks b f c) accepted → window row ≡ record { floor = f; ceiling = c } → q ≡ fresh (own_sheet (change_at p s i (λ _. row))) →
    Loosened σ p s i f c accepted q
loosen_accepted σ p q s i f c b row l e k r new = (
  bench_checked p s i (λ z. window_value_checks σ f c ++ wider_checks z f c) b l e k,
  new ∙ ap fresh (sheet_change p s i (λ _. row) (put_both f c) (λ b. r)),
)

-- ---- a fresh start

map_renew : (bs : List Bench) → map renew_bench bs ≡ map fresh_bench (map window bs)
map_renew [] = refl
map_renew (b ∷ bs) = ap (λ (z : List Bench). renew_bench b ∷ z) (map_renew bs)

pub restarted : (a b : Meaning) (ls rs ls' rs' : List Bench) (t : State) → ls' ≡ map renew_bench ls → rs' ≡ map renew_bench rs →
    plan (record { network = a; table = ls' }) (record { network = b; table = rs' }) Open ≡ fresh (own_sheet (plan (record { network = a; table = ls }) (record { network = b; table = rs }) t))
restarted a b ls rs ls' rs' t e f =
    ap₂ (λ (x y : List Bench). plan (record { network = a; table = x }) (record { network = b; table = y }) Open) (e ∙ map_renew ls) (f ∙ map_renew rs)
