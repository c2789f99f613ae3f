-- The law over runs. Assumes nothing.
use Rattle.std.proofs.Common.{◌≡◌, ℕ, List, ℤ, sym, refl, ap, ◌∙◌, subst, ap₂}
use Rattle.scale.specs.Algebra.{Algebra, LawfulScale}
use Rattle.network.specs.Networks.{LawfulNetwork}
use Rattle.network.specs.Checks.{Answer, accepted, refused}
use Rattle.model.specs.declared.state.State.{State}
use Rattle.model.specs.declared.state.State.TheVariants.{Open}
use Rattle.model.specs.Plans.{Model}
use Rattle.model.specs.Sheets.{Side, Sheet, new_sheet, own_sheet, fresh, Greatest, put_ceiling, put_floor, put_both, rewrite_at, put_network, put_ceilings}
use Rattle.model.specs.Calls.{lower_bench, raise_bench, lowered, raised, adopted, Lowered, Raised, Loosened, Exchanged, Advanced, Adopted}
use Rattle.model.specs.Runs.{Reading, Call, lower, raise, loosen, exchange, advance, adopt, reading, Reply, done, turned_away, advanced, state_is, slack_is, window_is, starts_are, reply, Does, History, found, ◌then◌, Takes, Writes, SheetOf, Offers, Run, founds, goes_on, Enough, Granted, Law}
use Rattle.model.proofs.Order.{≼_antisym}
use Rattle.model.proofs.Invariant.{Core, Good, lefts, rights, core_greatest, fresh_core, fresh_sheet, decided_state, other_state, step_of}
use Rattle.model.proofs.Round.{rounds_sheet, rounds_good, advance_decides}
use Rattle.model.proofs.Accepted.{lower_accepted, raise_accepted, loosen_accepted, exchange_accepted, found_accepted}
use Rattle.model.proofs.Steps.{sheet_change, lower_core, raise_core, loosen_sound, exchange_sound, adopt_sheet, adopt_core, found_sound}

-- ---- a history has at most one sheet

pub greatest_unique : (s : Sheet) (x y x' y' : List ℤ) → Greatest s x y → Greatest s x' y' → (x ≡ x') × (y ≡ y')
greatest_unique s x y x' y' g g' =
    let up = g'.highest x y g.fits in
    let down = g.highest x' y' g'.fits in
    (≼_antisym x x' up.0 down.0, ≼_antisym y y' up.1 down.1)

takes_unique : (s : Sheet) (c : Call) (t t' : Sheet) → Takes s c t → Takes s c t' → t ≡ t'
takes_unique s (lower side i v) t t' h k = h ∙ sym k
takes_unique s (raise side i v) t t' h k = h ∙ sym k
takes_unique s (loosen side i f c) t t' h k = h ∙ sym k
takes_unique s (exchange side m) t t' h k = h ∙ sym k
takes_unique s (advance n) t t' h k = h ∙ sym k
takes_unique s adopt t t' h k =
    let e = greatest_unique s h.0 h.1 k.0 k.1 h.2 k.2 in
    h.3 ∙ ap₂ (put_ceilings s) e.0 e.1 ∙ sym k.3
takes_unique s (reading x) t t' h k = h ∙ sym k

writes_unique : (s : Sheet) (c : Call) (r : Reply) (t t' : Sheet) → Writes s c r t → Writes s c r t' → t ≡ t'
writes_unique s c done t t' h k = takes_unique s c t t' h k
writes_unique s c (turned_away n) t t' h k = h ∙ sym k
writes_unique s c (advanced u n) t t' h k = takes_unique s c t t' h k
writes_unique s c (state_is u) t t' h k = takes_unique s c t t' h k
writes_unique s c (slack_is z) t t' h k = takes_unique s c t t' h k
writes_unique s c (window_is w) t t' h k = takes_unique s c t t' h k
writes_unique s c (starts_are x y) t t' h k = takes_unique s c t t' h k

sheet_unique : (h : History) (s t : Sheet) → SheetOf h s → SheetOf h t → s ≡ t
sheet_unique (found l r lws rws) s t a b = a ∙ sym b
sheet_unique (h then e) s t a b =
    let same = sheet_unique h b.0 a.0 b.1 a.1 in
    writes_unique a.0 e.0 e.1 s t a.2 (subst (λ (z : Sheet). Writes z e.0 e.1 t) same b.2)

-- ---- a call keeps the invariant, and writes on the sheet what the plan's own windows and networks become

pub record Goes (σ : Algebra) (p : Model) (c : Call) (r : Reply) (q : Model) : Type 0 where
  pub writes : Writes (own_sheet p) c r (own_sheet q)
  pub good : Good σ q

module _ (σ : Algebra) (ok : LawfulScale σ) (p q : Model) (k : Good σ p) where
  stays : (c : Call) (n : ℕ) (r : Reply) → q ≡ p → r ≡ turned_away n → Goes σ p c r q
  stays c n r e f = subst (λ (z : Reply). Goes σ p c z q) (sym f) (record { writes = ap own_sheet e; good = subst (λ (z : Model). Good σ z) (sym e) k })

  becomes : (c : Call) (r : Reply) (p' : Model) (s' : Sheet) → q ≡ p' → r ≡ done → own_sheet p' ≡ s' → Core σ s' p' → Takes (own_sheet p) c s' → Goes σ p c r q
  becomes c r p' s' e f same core takes =
      let there : own_sheet q ≡ s' = ap own_sheet e ∙ same in
      subst (λ (z : Reply). Goes σ p c z q) (sym f) (record {
        writes = subst (λ (z : Sheet). Takes (own_sheet p) c z) (sym there) takes;
        good = subst (λ (z : Sheet). Core σ z q) (sym there) (subst (λ (z : Model). Core σ s' z) (sym e) core);
      })

  lower_goes : (s i : ℕ) (v : ℤ) (a : Answer ℕ) (r : Reply) → Lowered σ p s i v a q → r ≡ reply a done → Goes σ p (lower s i v) r q
  lower_goes s i v accepted r f e =
      becomes (lower s i v) r (lowered p s i v) (rewrite_at (own_sheet p) s i (put_ceiling v)) f.1 e
      (sheet_change p s i (lower_bench v) (put_ceiling v) (λ b. refl)) (lower_core σ p k s i v (lower_accepted σ p s i v f.0)) refl
  lower_goes s i v (refused n) r f e = stays (lower s i v) n r f.1 e

  raise_goes : (s i : ℕ) (v : ℤ) (a : Answer ℕ) (r : Reply) → Raised σ p s i v a q → r ≡ reply a done → Goes σ p (raise s i v) r q
  raise_goes s i v accepted r f e =
      becomes (raise s i v) r (raised p s i v) (rewrite_at (own_sheet p) s i (put_floor v)) f.1 e
      (sheet_change p s i (raise_bench v) (put_floor v) (λ b. refl)) (raise_core σ p k s i v (raise_accepted σ p s i v f.0)) refl
  raise_goes s i v (refused n) r f e = stays (raise s i v) n r f.1 e

  loosen_goes : (s i : ℕ) (v w : ℤ) (a : Answer ℕ) (r : Reply) → Loosened σ p s i v w a q → r ≡ reply a done → Goes σ p (loosen s i v w) r q
  loosen_goes s i v w accepted r f e =
      let s' = rewrite_at (own_sheet p) s i (put_both v w) in
      becomes (loosen s i v w) r (fresh s') s' f.1 e (fresh_sheet s') (fresh_core σ s' (loosen_sound σ p k.sound s i v w (loosen_accepted σ ok p s i v w f.0))) refl
  loosen_goes s i v w (refused n) r f e = stays (loosen s i v w) n r f.1 e

  exchange_goes : (s : Side) (m : _) → LawfulNetwork σ m → (a : Answer ℕ) (r : Reply) → Exchanged p s m a q → r ≡ reply a done → Goes σ p (exchange s m) r q
  exchange_goes s m l accepted r f e =
      let s' = put_network (own_sheet p) s m in
      becomes (exchange s m) r (fresh s') s' f.1 e (fresh_sheet s') (fresh_core σ s' (exchange_sound σ p k.sound s m l (exchange_accepted p s m f.0))) refl
  exchange_goes s m l (refused n) r f e = stays (exchange s m) n r f.1 e

  advance_goes : (n j : ℕ) (t : State) (r : Reply) → Advanced p n t j q → r ≡ advanced t j → Goes σ p (advance n) r q
  advance_goes n j t r a e =
      subst (λ (z : Reply). Goes σ p (advance n) z q) (sym e) (record { writes = rounds_sheet j p q a.made; good = rounds_good σ j p q k a.made })

  adopt_goes : (a : Answer ℕ) (r : Reply) → Adopted p a q → r ≡ reply a done → Goes σ p adopt r q
  adopt_goes accepted r f e =
      let t = step_of p.state f.0.0 in
      becomes adopt r (adopted p) (put_ceilings (own_sheet p) (lefts p) (rights p)) f.1 e (adopt_sheet p) (adopt_core σ p k t)
      (lefts p, rights p, core_greatest σ (own_sheet p) p k t, refl)
  adopt_goes (refused n) r f e = stays adopt n r f.1 e

  -- a reading changes nothing, whatever it tells
  read_goes : (x : Reading) (r : Reply) → q ≡ p → Goes σ p (reading x) r q
  read_goes x done e = record { writes = ap own_sheet e; good = subst (λ (z : Model). Good σ z) (sym e) k }
  read_goes x (turned_away n) e = record { writes = ap own_sheet e; good = subst (λ (z : Model). Good σ z) (sym e) k }
  read_goes x (advanced t j) e = record { writes = ap own_sheet e; good = subst (λ (z : Model). Good σ z) (sym e) k }
  read_goes x (state_is t) e = record { writes = ap own_sheet e; good = subst (λ (z : Model). Good σ z) (sym e) k }
  read_goes x (slack_is z) e = record { writes = ap own_sheet e; good = subst (λ (z : Model). Good σ z) (sym e) k }
  read_goes x (window_is w) e = record { writes = ap own_sheet e; good = subst (λ (z : Model). Good σ z) (sym e) k }
  read_goes x (starts_are u v) e = record { writes = ap own_sheet e; good = subst (λ (z : Model). Good σ z) (sym e) k }

  goes : (c : Call) (r : Reply) → Offers σ c → Does σ p c r q → Goes σ p c r q
  goes (lower s i v) r o d = lower_goes s i v d.0 r d.1 d.2
  goes (raise s i v) r o d = raise_goes s i v d.0 r d.1 d.2
  goes (loosen s i v w) r o d = loosen_goes s i v w d.0 r d.1 d.2
  goes (exchange s m) r o d = exchange_goes s m o d.0 r d.1 d.2
  goes (advance n) r o d = advance_goes n d.1 d.0 r d.2 d.3
  goes adopt r o d = adopt_goes d.0 r d.1 d.2
  goes (reading x) r o d = read_goes x r d.1

-- ---- the sheet of a run is that of its plan, and the invariant holds

pub record Holds (σ : Algebra) (h : History) (p : Model) : Type 0 where
  pub sheet : SheetOf h (own_sheet p)
  pub good : Good σ p

pub holds : (σ : Algebra) → LawfulScale σ → {h : History} {p : Model} → Run σ h p → Holds σ h p
holds σ ok (founds l r lws rws q ll lr f) =
    let s = new_sheet l r lws rws in
    let e : own_sheet q ≡ s = ap own_sheet f.fresh_start ∙ fresh_sheet s in
    let core = fresh_core σ s (found_sound σ l r lws rws ll lr (found_accepted σ ok l r lws rws f.checks)) in
    record {
      sheet = e;
      good = subst (λ (z : Sheet). Core σ z q) (sym e) (subst (λ (z : Model). Core σ s z) (sym f.fresh_start) core);
    }
holds σ ok (goes_on h p q c r run o d) =
    let k = holds σ ok run in
    let g = goes σ ok p q k.good c r o d in
    record { sheet = (own_sheet p, k.sheet, g.writes); good = g.good }

-- ---- enough rounds decide

decides : (σ : Algebra) (p q : Model) → Good σ p → (c : Call) (r : Reply) → Does σ p c r q → (before : Type 0) → (before → ¬ (p.state ≡ Open)) → Enough p c before → ¬ (q.state ≡ Open)
decides σ p q k (lower s i v) r d before b g = absurd g
decides σ p q k (raise s i v) r d before b g = absurd g
decides σ p q k (loosen s i v w) r d before b g = absurd g
decides σ p q k (exchange s m) r d before b g = absurd g
decides σ p q k (advance n) r d before b g = advance_decides σ p q n d.1 d.0 k d.2 g
decides σ p q k adopt r d before b g = absurd g
decides σ p q k (reading x) r d before b g = λ e. b g (ap (λ (z : Model). z.state) (sym d.1) ∙ e)

pub granted_decides : (σ : Algebra) → LawfulScale σ → {h : History} {p : Model} (run : Run σ h p) → Granted run → ¬ (p.state ≡ Open)
granted_decides σ ok (founds l r lws rws q ll lr f) g = absurd g
granted_decides σ ok (goes_on h p q c r run o d) g = decides σ p q (holds σ ok run).good c r d (Granted run) (granted_decides σ ok run) g

pub law_stands : Law
law_stands σ ok h p run =
    let k = holds σ ok run in
    let c = k.good in
    record {
      sheet = own_sheet p;
      written = k.sheet;
      only = λ s w. sheet_unique h s (own_sheet p) w k.sheet;
      stands = record {
        windows = refl;
        in_step_greatest = core_greatest σ (own_sheet p) p c;
        impossible_none = λ e f. c.none e f.0 f.1 f.2;
        decided = λ g.
            let out = granted_decides σ ok run g in
            ((λ e. (lefts p, rights p, (core_greatest σ (own_sheet p) p c e).fits), λ f. decided_state p.state out (λ e. c.none e f.0 f.1 f.2)), other_state p.state out);
      };
    }
