-- Each accepted call keeps the invariant, and the plan's windows and networks go with the sheet's. Assumes nothing.
use Rattle.std.proofs.Common.{◌≡◌, ℕ, zero, suc, ◌<◌, Bool, true, false, cond, List, map, length, get_or, ℤ, ◌≤ℤ◌, ◌<ℤ◌, sym, refl, ap, ◌∙◌, subst, arith}
use lib.Signed.{lt_z}
use Rattle.std.proofs.lemmas.Int.{ints}
use Rattle.scale.specs.Algebra.{Algebra}
use Rattle.network.specs.Lists.{◌≼◌}
use Rattle.network.specs.Networks.{Meaning, LawfulNetwork}
use Rattle.model.specs.declared.bench.Window.{Window}
use Rattle.model.specs.declared.bench.Bench.{Bench}
use Rattle.model.specs.declared.state.State.{State}
use Rattle.model.specs.declared.state.State.TheVariants.{Open, InStep, Impossible}
use Rattle.model.specs.Plans.{Model, starts}
use Rattle.model.specs.Sheets.{Side, the_left, the_right, HallSheet, Sheet, new_sheet, Keeps, Fits, window, windows, own_sheet, alter, put_ceiling, put_floor, put_both, rewrite_at, put_network, put_ceilings}
use Rattle.model.specs.Calls.{change_at, in_state, lower_bench, raise_bench, adopt_bench, lowered, raised, adopted}
use Rattle.model.proofs.Tables.{Proper, windows_alter, length_alter, lower_proper, lower_keeps, lower_wider, lower_above, lower_same, raise_proper, raise_starts, raise_keeps, raise_wider, raise_none, loosen_proper, adopt_windows, adopt_starts, adopt_proper, adopt_keeps, adopt_wider, length_under}
use Rattle.model.proofs.Invariant.{Core, Good, Sound, SoundHall, Meets, lefts, rights, step_possible}
use Rattle.model.proofs.Accepted.{Narrows, Widens, Replaces, Foundable}

-- ---- left for right

abbrev flip_sheet : Sheet → Sheet
flip_sheet s = record { left = s.right; right = s.left }

abbrev flip_plan : Model → Model
flip_plan p = record { left = p.right; right = p.left; state = p.state }

flip_fits : (s : Sheet) (x y : List ℤ) → Fits (flip_sheet s) x y → Fits s y x
flip_fits s x y f = record { left_keeps = f.right_keeps; right_keeps = f.left_keeps; together = sym f.together }

flip_core : (σ : Algebra) (s : Sheet) (p : Model) → Core σ s p → Core σ (flip_sheet s) (flip_plan p)
flip_core σ s p c = record {
  sound = record { left = c.sound.right; right = c.sound.left; level = sym c.sound.level };
  left_keeps = c.right_keeps;
  right_keeps = c.left_keeps;
  above = λ n x y f. let both = c.above n y x (flip_fits s x y f) in (both.1, both.0);
  meets = λ e. let m = c.meets e in record { left_first = m.right_first; right_first = m.left_first };
  none = λ e x y f. c.none e y x (flip_fits s x y f);
}

-- ---- one window changed

pub sheet_change : (p : Model) (s i : ℕ) (f : Bench → Bench) (g : Window → Window) → ((b : Bench) → window (f b) ≡ g (window b)) → own_sheet (change_at p s i f) ≡ rewrite_at (own_sheet p) s i g
sheet_change p zero i f g e = ap (λ (ws : List Window). record { left = record { network = p.left.network; windows = ws }; right = (own_sheet p).right }) (windows_alter f g e i p.left.table)
sheet_change p (suc zero) i f g e = ap (λ (ws : List Window). record { left = (own_sheet p).left; right = record { network = p.right.network; windows = ws } }) (windows_alter f g e i p.right.table)
sheet_change p (suc (suc s)) i f g e = refl

-- the sound hall of a changed window
altered_sound : (σ : Algebra) (d : HallSheet) (i : ℕ) (g : Window → Window) → SoundHall σ d → Proper σ (alter i g d.windows) → SoundHall σ (record { network = d.network; windows = alter i g d.windows })
altered_sound σ d i g h p = record { lawful = h.lawful; count = length_alter g i d.windows ∙ h.count; proper = p }

-- ---- lower

opened_step : (b : Bool) (t : State) → cond b Open t ≡ InStep → (b ≡ false) × (t ≡ InStep)
opened_step true t e = (cc, cc)
opened_step false t e = (refl, e)

opened_impossible : (b : Bool) (t : State) → cond b Open t ≡ Impossible → t ≡ Impossible
opened_impossible true t e = cc
opened_impossible false t e = e

lower_left : (σ : Algebra) (p : Model) → Good σ p → (d : Bench) (i : ℕ) (v : ℤ) → (get_or p.left.table i d).floor ≤ℤ v → v ≤ℤ (get_or p.left.table i d).ceiling → ¬ (p.state ≡ Impossible) →
    Core σ (rewrite_at (own_sheet p) 0 i (put_ceiling v)) (in_state (cond (lt_z v (get_or p.left.table i d).start) Open p.state) (change_at p 0 i (lower_bench v)))
lower_left σ p c d i v floor_below ceiling_above can =
    let bs = p.left.table in
    let s' = rewrite_at (own_sheet p) 0 i (put_ceiling v) in
    let wider : (x y : List ℤ) → Fits s' x y → Fits (own_sheet p) x y =
    λ x y f. record { left_keeps = lower_wider d v i bs x ceiling_above f.left_keeps; right_keeps = f.right_keeps; together = f.together } in
    record {
      sound = record {
        left = altered_sound σ (own_sheet p).left i (put_ceiling v) c.sound.left (lower_proper d v σ i bs floor_below ceiling_above c.sound.left.proper);
        right = c.sound.right;
        level = c.sound.level;
      };
      left_keeps = λ n. lower_keeps d v i bs floor_below (c.left_keeps can);
      right_keeps = λ n. c.right_keeps can;
      above = λ n x y f.
          let both = c.above can x y (wider x y f) in
          (lower_above d v i bs x f.left_keeps both.0, both.1);
      meets = λ e.
          let same = opened_step (lt_z v (get_or bs i d).start) p.state e in
          subst (λ (x : List ℤ). Meets p.left.network p.right.network x (rights p)) (sym (lower_same d v i bs same.0)) (c.meets same.1);
      none = λ e. absurd (can (opened_impossible (lt_z v (get_or bs i d).start) p.state e));
    }

pub lower_core : (σ : Algebra) (p : Model) → Good σ p → (s i : ℕ) (v : ℤ) → Narrows p s i v → Core σ (rewrite_at (own_sheet p) s i (put_ceiling v)) (lowered p s i v)
lower_core σ p c zero i v n = lower_left σ p c _ i v n.from_floor n.to_ceiling n.possible
lower_core σ p c (suc zero) i v n = flip_core σ _ _ (lower_left σ (flip_plan p) (flip_core σ (own_sheet p) p c) _ i v n.from_floor n.to_ceiling n.possible)
lower_core σ p c (suc (suc s)) i v n = absurd (omega (arith, n.there))

-- ---- raise

fell_possible : (b : Bool) (t : State) → ¬ (cond b Impossible t ≡ Impossible) → b ≡ false
fell_possible true t n = absurd (n refl)
fell_possible false t n = refl

fell_step : (b : Bool) (t : State) → cond b Impossible t ≡ InStep → t ≡ InStep
fell_step true t e = cc
fell_step false t e = e

fell_impossible : (b : Bool) (t : State) → ¬ (t ≡ Impossible) → cond b Impossible t ≡ Impossible → b ≡ true
fell_impossible true t n e = refl
fell_impossible false t n e = absurd (n e)

lt_false : (a b : ℤ) → lt_z a b ≡ false → b ≤ℤ a
lt_false a b e = omega (arith, ints)

lt_true : (a b : ℤ) → lt_z a b ≡ true → a <ℤ b
lt_true a b e = omega (arith, ints)

raise_left : (σ : Algebra) (p : Model) → Good σ p → (d : Bench) (i : ℕ) (v : ℤ) → i < length p.left.table → (get_or p.left.table i d).floor ≤ℤ v → v ≤ℤ (get_or p.left.table i d).ceiling → ¬ (p.state ≡ Impossible) →
    Core σ (rewrite_at (own_sheet p) 0 i (put_floor v)) (in_state (cond (lt_z (get_or p.left.table i d).start v) Impossible p.state) (change_at p 0 i (raise_bench v)))
raise_left σ p c d i v there floor_below ceiling_above can =
    let bs = p.left.table in
    let s' = rewrite_at (own_sheet p) 0 i (put_floor v) in
    let same : starts bs ≡ starts (alter i (raise_bench v) bs) = sym (raise_starts d v i bs) in
    let wider : (x y : List ℤ) → Fits s' x y → Fits (own_sheet p) x y =
    λ x y f. record { left_keeps = raise_wider d v i bs x floor_below f.left_keeps; right_keeps = f.right_keeps; together = f.together } in
    record {
      sound = record {
        left = altered_sound σ (own_sheet p).left i (put_floor v) c.sound.left (raise_proper d v σ i bs floor_below ceiling_above c.sound.left.proper);
        right = c.sound.right;
        level = c.sound.level;
      };
      left_keeps = λ n.
          subst (λ (x : List ℤ). Keeps (alter i (put_floor v) (windows bs)) x) same
          (raise_keeps d v i bs (lt_false _ _ (fell_possible (lt_z (get_or bs i d).start v) p.state n)) (c.left_keeps can));
      right_keeps = λ n. c.right_keeps can;
      above = λ n x y f.
          let both = c.above can x y (wider x y f) in
          (subst (λ (z : List ℤ). x ≼ z) same both.0, both.1);
      meets = λ e. subst (λ (x : List ℤ). Meets p.left.network p.right.network x (rights p)) same (c.meets (fell_step (lt_z (get_or bs i d).start v) p.state e));
      none = λ e x y f.
          raise_none d v i bs x there (lt_true _ _ (fell_impossible (lt_z (get_or bs i d).start v) p.state can e)) f.left_keeps (c.above can x y (wider x y f)).0;
    }

pub raise_core : (σ : Algebra) (p : Model) → Good σ p → (s i : ℕ) (v : ℤ) → Narrows p s i v → Core σ (rewrite_at (own_sheet p) s i (put_floor v)) (raised p s i v)
raise_core σ p c zero i v n = raise_left σ p c _ i v n.there n.from_floor n.to_ceiling n.possible
raise_core σ p c (suc zero) i v n = flip_core σ _ _ (raise_left σ (flip_plan p) (flip_core σ (own_sheet p) p c) _ i v n.there n.from_floor n.to_ceiling n.possible)
raise_core σ p c (suc (suc s)) i v n = absurd (omega (arith, n.there))

-- ---- loosen

pub loosen_sound : (σ : Algebra) (p : Model) → Sound σ (own_sheet p) → (s i : ℕ) (f c : ℤ) → Widens σ p s i f c → Sound σ (rewrite_at (own_sheet p) s i (put_both f c))
loosen_sound σ p k zero i f c w = record {
  left = altered_sound σ (own_sheet p).left i (put_both f c) k.left (loosen_proper _ f c σ i p.left.table w.low w.floor_down w.ceiling_up w.high k.left.proper);
  right = k.right;
  level = k.level;
}
loosen_sound σ p k (suc zero) i f c w = record {
  left = k.left;
  right = altered_sound σ (own_sheet p).right i (put_both f c) k.right (loosen_proper _ f c σ i p.right.table w.low w.floor_down w.ceiling_up w.high k.right.proper);
  level = k.level;
}
loosen_sound σ p k (suc (suc s)) i f c w = absurd (omega (arith, w.there))

-- ---- exchange

pub exchange_sound : (σ : Algebra) (p : Model) → Sound σ (own_sheet p) → (s : Side) (m : Meaning) → LawfulNetwork σ m → Replaces p s m → Sound σ (put_network (own_sheet p) s m)
exchange_sound σ p k the_left m law r = record {
  left = record { lawful = law; count = k.left.count ∙ sym r.benches; proper = k.left.proper };
  right = k.right;
  level = r.stations ∙ k.level;
}
exchange_sound σ p k the_right m law r = record {
  left = k.left;
  right = record { lawful = law; count = k.right.count ∙ sym r.benches; proper = k.right.proper };
  level = k.level ∙ sym r.stations;
}

-- ---- adopt

pub adopt_sheet : (p : Model) → own_sheet (adopted p) ≡ put_ceilings (own_sheet p) (lefts p) (rights p)
adopt_sheet p = λ i. record {
  left = record { network = p.left.network; windows = adopt_windows p.left.table i };
  right = record { network = p.right.network; windows = adopt_windows p.right.table i };
}

pub adopt_core : (σ : Algebra) (p : Model) → Good σ p → p.state ≡ InStep → Core σ (put_ceilings (own_sheet p) (lefts p) (rights p)) (adopted p)
adopt_core σ p c e =
    let can = step_possible p.state e in
    let bs = p.left.table in
    let cs = p.right.table in
    let s' = put_ceilings (own_sheet p) (lefts p) (rights p) in
    let kl = c.left_keeps can in
    let kr = c.right_keeps can in
    let wider : (x y : List ℤ) → Fits s' x y → Fits (own_sheet p) x y =
    λ x y f. record { left_keeps = adopt_wider bs x kl f.left_keeps; right_keeps = adopt_wider cs y kr f.right_keeps; together = f.together } in
    let sl : starts bs ≡ starts (map adopt_bench bs) = sym (adopt_starts bs) in
    let sr : starts cs ≡ starts (map adopt_bench cs) = sym (adopt_starts cs) in
    record {
      sound = record {
        left = record { lawful = c.sound.left.lawful; count = length_under (starts bs) (windows bs) ∙ c.sound.left.count; proper = adopt_proper σ bs kl c.sound.left.proper };
        right = record { lawful = c.sound.right.lawful; count = length_under (starts cs) (windows cs) ∙ c.sound.right.count; proper = adopt_proper σ cs kr c.sound.right.proper };
        level = c.sound.level;
      };
      left_keeps = λ n. subst (λ (x : List ℤ). Keeps s'.left.windows x) sl (adopt_keeps bs kl);
      right_keeps = λ n. subst (λ (x : List ℤ). Keeps s'.right.windows x) sr (adopt_keeps cs kr);
      above = λ n x y f.
          let both = c.above can x y (wider x y f) in
          (subst (λ (z : List ℤ). x ≼ z) sl both.0, subst (λ (z : List ℤ). y ≼ z) sr both.1);
      meets = λ t. subst (λ (x : List ℤ). Meets p.left.network p.right.network x (starts (map adopt_bench cs))) sl
          (subst (λ (y : List ℤ). Meets p.left.network p.right.network (starts bs) y) sr (c.meets e));
      none = λ t. absurd (can t);
    }

-- ---- found

pub found_sound : (σ : Algebra) (l r : Meaning) (lws rws : List Window) → LawfulNetwork σ l → LawfulNetwork σ r → Foundable σ l r lws rws → Sound σ (new_sheet l r lws rws)
found_sound σ l r lws rws ll lr f = record {
  left = record { lawful = ll; count = f.lefts; proper = f.left_proper };
  right = record { lawful = lr; count = f.rights; proper = f.right_proper };
  level = f.level;
}
