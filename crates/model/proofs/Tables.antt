-- Tables of benches: what a cut, a fresh start and a changed window do to starts and windows. Assumes nothing.
use Rattle.std.proofs.Common.{◌≡◌, ℕ, zero, suc, ◌<◌, true, false, List, [], ◌∷◌, map, length, get_or, ℤ, pos, ◌+ℤ◌, ◌-ℤ◌, ◌≤ℤ◌, ◌<ℤ◌, sym, refl, ap, ◌∙◌, inl, inr, le_of_suc-le-suc, arith}
use lib.Signed.{lt_z}
use Rattle.std.specs.Int.{int_min}
use Rattle.std.proofs.lemmas.Int.{ints}
use Rattle.network.specs.Lists.{◌≼◌, Values, Row}
use Rattle.scale.specs.Algebra.{Algebra}
use Rattle.model.specs.declared.bench.Bench.{Bench}
use Rattle.model.specs.Plans.{starts, cut, fallen, spare, same_list}
use Rattle.model.specs.declared.bench.Window.{Window}
use Rattle.model.specs.Sheets.{Keeps, window, windows, fresh_bench, alter, put_ceiling, put_floor, put_both, under}
use Rattle.model.specs.Calls.{lower_bench, raise_bench, adopt_bench}
use Rattle.scale.proofs.Integers.{≤_refl, ≤_trans, min_left, min_right, min_above}
use Rattle.model.proofs.Order.{≼_refl, same_list_same}
use Rattle.std.proofs.lemmas.Bool.{and_cases, or_cases, or_parts, true≢false}
use Rattle.std.proofs.lemmas.Bool.Decides.{Decides-int_eq, not_from_Decides}
use Rattle.std.specs.Ordering.{int_eq}

-- every window lies in the range, its floor at most its ceiling
abbrev pub Proper : Algebra → List Window → Type 0
Proper σ [] = Unit {0}
Proper σ (w ∷ ws) = (σ.lowest ≤ℤ w.floor) × (w.floor ≤ℤ w.ceiling) × (w.ceiling ≤ℤ σ.highest) × Proper σ ws

pub keeps_length : (ws : List Window) (x : List ℤ) → Keeps ws x → length x ≡ length ws
keeps_length [] [] h = refl
keeps_length [] (a ∷ x) h = absurd h
keeps_length (w ∷ ws) [] h = absurd h
keeps_length (w ∷ ws) (a ∷ x) h = ap suc (keeps_length ws x h.2)

keeps_values : (σ : Algebra) (ws : List Window) (x : List ℤ) → Proper σ ws → Keeps ws x → Values σ x
keeps_values σ [] [] p h = tt
keeps_values σ [] (a ∷ x) p h = absurd h
keeps_values σ (w ∷ ws) [] p h = absurd h
keeps_values σ (w ∷ ws) (a ∷ x) p h =
    (record { above = ≤_trans _ _ _ p.0 h.0; below = ≤_trans _ _ _ h.1 p.2 }, keeps_values σ ws x p.3 h.2)

pub keeps_row : (σ : Algebra) (n : ℕ) (ws : List Window) (x : List ℤ) → length ws ≡ n → Proper σ ws → Keeps ws x → Row σ n x
keeps_row σ n ws x c p h = record { count = keeps_length ws x h ∙ c; values = keeps_values σ ws x p h }

-- ---- a cut

pub cut_windows : (bs : List Bench) (v : List ℤ) → windows (cut bs v) ≡ windows bs
cut_windows [] v = refl
cut_windows (b ∷ bs) [] = refl
cut_windows (b ∷ bs) (a ∷ v) = ap (λ (ws : List Window). window b ∷ ws) (cut_windows bs v)

pub cut_below : (bs : List Bench) (v : List ℤ) → starts (cut bs v) ≼ starts bs
cut_below [] v = tt
cut_below (b ∷ bs) [] = ≼_refl (starts (b ∷ bs))
cut_below (b ∷ bs) (a ∷ v) = (min_left b.start a, cut_below bs v)

pub cut_limit : (bs : List Bench) (v : List ℤ) → length (starts bs) ≡ length v → starts (cut bs v) ≼ v
cut_limit [] [] e = tt
cut_limit [] (a ∷ v) e = absurd (omega arith)
cut_limit (b ∷ bs) [] e = absurd (omega arith)
cut_limit (b ∷ bs) (a ∷ v) e = (min_right b.start a, cut_limit bs v (omega arith))

pub cut_above : (bs : List Bench) (v x : List ℤ) → x ≼ starts bs → x ≼ v → x ≼ starts (cut bs v)
cut_above [] v x h k = h
cut_above (b ∷ bs) [] x h k = h
cut_above (b ∷ bs) (a ∷ v) [] h k = absurd h
cut_above (b ∷ bs) (a ∷ v) (c ∷ x) h k = (min_above b.start a c h.0 k.0, cut_above bs v x h.1 k.1)

pub cut_values : (σ : Algebra) (bs : List Bench) (v : List ℤ) → Values σ (starts bs) → Values σ v → Values σ (starts (cut bs v))
cut_values σ [] v h k = tt
cut_values σ (b ∷ bs) [] h k = h
cut_values σ (b ∷ bs) (a ∷ v) h k = (
  record { above = min_above b.start a _ h.0.above k.0.above; below = ≤_trans _ _ _ (min_left b.start a) h.0.below },
  cut_values σ bs v h.1 k.1,
)

pub cut_keeps : (bs : List Bench) (v : List ℤ) → Keeps (windows bs) (starts bs) → fallen (cut bs v) ≡ false → Keeps (windows bs) (starts (cut bs v))
cut_keeps [] v h e = tt
cut_keeps (b ∷ bs) [] h e = h
cut_keeps (b ∷ bs) (a ∷ v) h e =
    let both = or_parts (lt_z (int_min b.start a) b.floor) (fallen (cut bs v)) e in
    (lt_false (int_min b.start a) b.floor both.0, ≤_trans _ _ _ (min_left b.start a) h.1, cut_keeps bs v h.2 both.1)
  where
    lt_false : (a b : ℤ) → lt_z a b ≡ false → b ≤ℤ a
    lt_false a b e = omega (arith, ints)

lt_true : (a b : ℤ) → lt_z a b ≡ true → a <ℤ b
lt_true a b e = omega (arith, ints)

clash : (a b c : ℤ) → a <ℤ b → b ≤ℤ c → c ≤ℤ a → ⊥
clash a b c h k l = omega (arith, ints)

pub fallen_none : (bs : List Bench) (x : List ℤ) → fallen bs ≡ true → Keeps (windows bs) x → x ≼ starts bs → ⊥
fallen_none [] x e h k = true≢false (sym e)
fallen_none (b ∷ bs) [] e h k = k
fallen_none (b ∷ bs) (a ∷ x) e h k =
    elim (or_cases (lt_z b.start b.floor) (fallen bs) e) [
      | inl l ↦ clash b.start b.floor a (lt_true _ _ l) h.0 k.0
      | inr r ↦ fallen_none bs x r h.2 k.1
    ]

-- ---- slack

less_start : (s m f r r' : ℤ) → m ≤ℤ s → r' ≤ℤ r → ((m -ℤ f) +ℤ r') ≤ℤ ((s -ℤ f) +ℤ r)
less_start s m f r r' h k = omega (arith, ints)

pub cut_spare : (bs : List Bench) (v : List ℤ) → spare (cut bs v) ≤ℤ spare bs
cut_spare [] v = ≤_refl (pos 0)
cut_spare (b ∷ bs) [] = ≤_refl (spare (b ∷ bs))
cut_spare (b ∷ bs) (a ∷ v) = less_start b.start (int_min b.start a) b.floor (spare bs) (spare (cut bs v)) (min_left _ _) (cut_spare bs v)

fell_here : (s m f r r' : ℤ) → m ≤ℤ s → ¬ (s ≡ m) → r' ≤ℤ r → ((m -ℤ f) +ℤ r') <ℤ ((s -ℤ f) +ℤ r)
fell_here s m f r r' h n k = omega (arith, ints)

fell_there : (s m f r r' : ℤ) → m ≤ℤ s → r' <ℤ r → ((m -ℤ f) +ℤ r') <ℤ ((s -ℤ f) +ℤ r)
fell_there s m f r r' h k = omega (arith, ints)

pub cut_falls : (bs : List Bench) (v : List ℤ) → same_list (starts bs) (starts (cut bs v)) ≡ false → spare (cut bs v) <ℤ spare bs
cut_falls [] v e = absurd (true≢false e)
cut_falls (b ∷ bs) [] e = absurd (true≢false (sym (same_list_same (starts (b ∷ bs))) ∙ e))
cut_falls (b ∷ bs) (a ∷ v) e =
    let m = int_min b.start a in
    elim (and_cases (int_eq b.start m) (same_list (starts bs) (starts (cut bs v))) e) [
      | inl l ↦ fell_here b.start m b.floor (spare bs) (spare (cut bs v)) (min_left _ _) (not_from_Decides _ (Decides-int_eq b.start m) l) (cut_spare bs v)
      | inr r ↦ fell_there b.start m b.floor (spare bs) (spare (cut bs v)) (min_left _ _) (cut_falls bs v r)
    ]

add_spare : (s f r : ℤ) → f ≤ℤ s → pos 0 ≤ℤ r → pos 0 ≤ℤ ((s -ℤ f) +ℤ r)
add_spare s f r h k = omega (arith, ints)

pub keeps_spare : (bs : List Bench) → Keeps (windows bs) (starts bs) → pos 0 ≤ℤ spare bs
keeps_spare [] h = ≤_refl (pos 0)
keeps_spare (b ∷ bs) h = add_spare b.start b.floor (spare bs) h.0 (keeps_spare bs h.2)

-- ---- a fresh start

pub fresh_windows : (ws : List Window) → windows (map fresh_bench ws) ≡ ws
fresh_windows [] = refl
fresh_windows (w ∷ ws) = ap (λ (r : List Window). w ∷ r) (fresh_windows ws)

pub fresh_keeps : (σ : Algebra) (ws : List Window) → Proper σ ws → Keeps ws (starts (map fresh_bench ws))
fresh_keeps σ [] p = tt
fresh_keeps σ (w ∷ ws) p = (p.1, ≤_refl w.ceiling, fresh_keeps σ ws p.3)

pub fresh_above : (ws : List Window) (x : List ℤ) → Keeps ws x → x ≼ starts (map fresh_bench ws)
fresh_above [] [] h = tt
fresh_above [] (a ∷ x) h = absurd h
fresh_above (w ∷ ws) [] h = absurd h
fresh_above (w ∷ ws) (a ∷ x) h = (h.1, fresh_above ws x h.2)

-- ---- one window changed

pub windows_alter : (f : Bench → Bench) (g : Window → Window) → ((b : Bench) → window (f b) ≡ g (window b)) → (i : ℕ) (bs : List Bench) → windows (alter i f bs) ≡ alter i g (windows bs)
windows_alter f g e i [] = refl
windows_alter f g e zero (b ∷ bs) = ap (λ (w : Window). w ∷ windows bs) (e b)
windows_alter f g e (suc i) (b ∷ bs) = ap (λ (ws : List Window). window b ∷ ws) (windows_alter f g e i bs)

pub length_alter : {A : Type 0} (f : A → A) (i : ℕ) (xs : List A) → length (alter i f xs) ≡ length xs
length_alter f i [] = refl
length_alter f zero (x ∷ xs) = refl
length_alter f (suc i) (x ∷ xs) = ap suc (length_alter f i xs)

-- ---- a lower ceiling

module _ (d : Bench) (v : ℤ) where
  pub lower_proper : (σ : Algebra) (i : ℕ) (bs : List Bench) → (get_or bs i d).floor ≤ℤ v → v ≤ℤ (get_or bs i d).ceiling → Proper σ (windows bs) → Proper σ (alter i (put_ceiling v) (windows bs))
  lower_proper σ i [] f c p = tt
  lower_proper σ zero (b ∷ bs) f c p = (p.0, f, ≤_trans _ _ _ c p.2, p.3)
  lower_proper σ (suc i) (b ∷ bs) f c p = (p.0, p.1, p.2, lower_proper σ i bs f c p.3)

  pub lower_keeps : (i : ℕ) (bs : List Bench) → (get_or bs i d).floor ≤ℤ v → Keeps (windows bs) (starts bs) → Keeps (alter i (put_ceiling v) (windows bs)) (starts (alter i (lower_bench v) bs))
  lower_keeps i [] f h = tt
  lower_keeps zero (b ∷ bs) f h = (min_above _ _ _ h.0 f, min_right b.start v, h.2)
  lower_keeps (suc i) (b ∷ bs) f h = (h.0, h.1, lower_keeps i bs f h.2)

  pub lower_wider : (i : ℕ) (bs : List Bench) (x : List ℤ) → v ≤ℤ (get_or bs i d).ceiling → Keeps (alter i (put_ceiling v) (windows bs)) x → Keeps (windows bs) x
  lower_wider i [] x c h = h
  lower_wider zero (b ∷ bs) [] c h = h
  lower_wider zero (b ∷ bs) (a ∷ x) c h = (h.0, ≤_trans _ _ _ h.1 c, h.2)
  lower_wider (suc i) (b ∷ bs) [] c h = h
  lower_wider (suc i) (b ∷ bs) (a ∷ x) c h = (h.0, h.1, lower_wider i bs x c h.2)

  pub lower_above : (i : ℕ) (bs : List Bench) (x : List ℤ) → Keeps (alter i (put_ceiling v) (windows bs)) x → x ≼ starts bs → x ≼ starts (alter i (lower_bench v) bs)
  lower_above i [] x h k = k
  lower_above zero (b ∷ bs) [] h k = k
  lower_above zero (b ∷ bs) (a ∷ x) h k = (min_above _ _ _ k.0 h.1, k.1)
  lower_above (suc i) (b ∷ bs) [] h k = k
  lower_above (suc i) (b ∷ bs) (a ∷ x) h k = (k.0, lower_above i bs x h.2 k.1)

  pub lower_same : (i : ℕ) (bs : List Bench) → lt_z v (get_or bs i d).start ≡ false → starts (alter i (lower_bench v) bs) ≡ starts bs
  lower_same i [] e = refl
  lower_same zero (b ∷ bs) e = ap (λ (c : ℤ). c ∷ starts bs) (min_is b.start e)
    where
      min_is : (s : ℤ) → lt_z v s ≡ false → int_min s v ≡ s
      min_is s e = rw e
  lower_same (suc i) (b ∷ bs) e = ap (λ (x : List ℤ). b.start ∷ x) (lower_same i bs e)

  -- ---- a higher floor

  pub raise_proper : (σ : Algebra) (i : ℕ) (bs : List Bench) → (get_or bs i d).floor ≤ℤ v → v ≤ℤ (get_or bs i d).ceiling → Proper σ (windows bs) → Proper σ (alter i (put_floor v) (windows bs))
  raise_proper σ i [] f c p = tt
  raise_proper σ zero (b ∷ bs) f c p = (≤_trans _ _ _ p.0 f, c, p.2, p.3)
  raise_proper σ (suc i) (b ∷ bs) f c p = (p.0, p.1, p.2, raise_proper σ i bs f c p.3)

  pub raise_starts : (i : ℕ) (bs : List Bench) → starts (alter i (raise_bench v) bs) ≡ starts bs
  raise_starts i [] = refl
  raise_starts zero (b ∷ bs) = refl
  raise_starts (suc i) (b ∷ bs) = ap (λ (x : List ℤ). b.start ∷ x) (raise_starts i bs)

  pub raise_keeps : (i : ℕ) (bs : List Bench) → v ≤ℤ (get_or bs i d).start → Keeps (windows bs) (starts bs) → Keeps (alter i (put_floor v) (windows bs)) (starts bs)
  raise_keeps i [] f h = tt
  raise_keeps zero (b ∷ bs) f h = (f, h.1, h.2)
  raise_keeps (suc i) (b ∷ bs) f h = (h.0, h.1, raise_keeps i bs f h.2)

  pub raise_wider : (i : ℕ) (bs : List Bench) (x : List ℤ) → (get_or bs i d).floor ≤ℤ v → Keeps (alter i (put_floor v) (windows bs)) x → Keeps (windows bs) x
  raise_wider i [] x c h = h
  raise_wider zero (b ∷ bs) [] c h = h
  raise_wider zero (b ∷ bs) (a ∷ x) c h = (≤_trans _ _ _ c h.0, h.1, h.2)
  raise_wider (suc i) (b ∷ bs) [] c h = h
  raise_wider (suc i) (b ∷ bs) (a ∷ x) c h = (h.0, h.1, raise_wider i bs x c h.2)

  pub raise_none : (i : ℕ) (bs : List Bench) (x : List ℤ) → i < length bs → (get_or bs i d).start <ℤ v → Keeps (alter i (put_floor v) (windows bs)) x → x ≼ starts bs → ⊥
  raise_none i [] x l s h k = omega arith
  raise_none zero (b ∷ bs) [] l s h k = k
  raise_none zero (b ∷ bs) (a ∷ x) l s h k = clash b.start v a s h.0 k.0
  raise_none (suc i) (b ∷ bs) [] l s h k = k
  raise_none (suc i) (b ∷ bs) (a ∷ x) l s h k = raise_none i bs x (le_of_suc-le-suc l) s h.2 k.1

-- ---- a wider window

pub loosen_proper : (d : Bench) (f c : ℤ) (σ : Algebra) (i : ℕ) (bs : List Bench) → σ.lowest ≤ℤ f → f ≤ℤ (get_or bs i d).floor → (get_or bs i d).ceiling ≤ℤ c → c ≤ℤ σ.highest → Proper σ (windows bs) → Proper σ (alter i (put_both f c) (windows bs))
loosen_proper d f c σ i [] l m n h p = tt
loosen_proper d f c σ zero (b ∷ bs) l m n h p = (l, ≤_trans _ _ _ m (≤_trans _ _ _ p.1 n), h, p.3)
loosen_proper d f c σ (suc i) (b ∷ bs) l m n h p = (p.0, p.1, p.2, loosen_proper d f c σ i bs l m n h p.3)

-- ---- ceilings at the starts

pub adopt_windows : (bs : List Bench) → windows (map adopt_bench bs) ≡ under (starts bs) (windows bs)
adopt_windows [] = refl
adopt_windows (b ∷ bs) = ap (λ (ws : List Window). window (adopt_bench b) ∷ ws) (adopt_windows bs)

pub adopt_starts : (bs : List Bench) → starts (map adopt_bench bs) ≡ starts bs
adopt_starts [] = refl
adopt_starts (b ∷ bs) = ap (λ (x : List ℤ). b.start ∷ x) (adopt_starts bs)

pub adopt_proper : (σ : Algebra) (bs : List Bench) → Keeps (windows bs) (starts bs) → Proper σ (windows bs) → Proper σ (under (starts bs) (windows bs))
adopt_proper σ [] h p = tt
adopt_proper σ (b ∷ bs) h p = (p.0, h.0, ≤_trans _ _ _ h.1 p.2, adopt_proper σ bs h.2 p.3)

pub adopt_keeps : (bs : List Bench) → Keeps (windows bs) (starts bs) → Keeps (under (starts bs) (windows bs)) (starts bs)
adopt_keeps [] h = tt
adopt_keeps (b ∷ bs) h = (h.0, ≤_refl b.start, adopt_keeps bs h.2)

pub adopt_wider : (bs : List Bench) (x : List ℤ) → Keeps (windows bs) (starts bs) → Keeps (under (starts bs) (windows bs)) x → Keeps (windows bs) x
adopt_wider [] x h k = k
adopt_wider (b ∷ bs) [] h k = k
adopt_wider (b ∷ bs) (a ∷ x) h k = (k.0, ≤_trans _ _ _ k.1 h.1, adopt_wider bs x h.2 k.2)

pub length_under : (x : List ℤ) (ws : List Window) → length (under x ws) ≡ length ws
length_under [] ws = refl
length_under (a ∷ x) [] = refl
length_under (a ∷ x) (w ∷ ws) = ap suc (length_under x ws)
