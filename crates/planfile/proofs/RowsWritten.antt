-- The rows of a network, written. Assumes nothing.
use Rattle.std.proofs.Common.{◌≡◌, ℕ, zero, suc, ◌+◌, ◌*◌, ◌/◌, ◌%◌, ◌^◌, ◌<◌, ◌≤◌, ltb, List, [], ◌∷◌, ◌++◌, length, ℤ, Some, None, Option, sym, refl, ap, ◌∙◌, subst, ⊎_elim, pow-suc, arith, pow_mono}
use Rattle.std.proofs.lemmas.List.{append_assoc, append-nil}
use Rattle.std.proofs.lemmas.Bool.{cases_eq, lt-ltb, ltb-true}
use Rattle.network.specs.declared.refusal.Refusal.TheVariants.{Bit, Coefficient}
use Rattle.layout.specs.declared.bounds.Bounds.{Bounds}
use Rattle.layout.specs.Faults.{on_line}
use Rattle.layout.specs.Layouts.{then, told}
use Rattle.layout.specs.Numbers.{number_in}
use Rattle.layout.specs.Writing.{bytes_of, Lays, no_field}
use Rattle.layout.proofs.Laid.{gives_laid, then_lays, then_laid, told_lays, told_laid, checked_lays, checked_laid}
use Rattle.planfile.specs.Rows.{map_of, cells, row_of}
use Rattle.planfile.specs.Parts.{rows_of}
use Rattle.planfile.specs.Documents.{complement, map_number, numbers, row_written, rows_written, BoundedCells, SoundRows, joined}
use Rattle.planfile.proofs.Bits.{cells_none, cells_some}
use Rattle.planfile.proofs.Complement.{Narrow, complement_lays, complement_laid}

map_below : (cs : List (Option ℤ)) → map_number cs < 2 ^ length cs
map_below [] = omega arith
map_below (None ∷ cs) = omega (arith, map_below cs, pow-suc 2 (length cs))
map_below (Some a ∷ cs) = omega (arith, map_below cs, pow-suc 2 (length cs))

module _ (b : Bounds) where
  -- ---- a row

  cells_lay : Narrow b → (cs done : List (Option ℤ)) (p : ℕ) → BoundedCells b cs → Lays (cells b (length cs) (map_number cs) done) p (numbers cs) (done ++ cs)
  unfolding cells
  cells_lay w [] done p h = subst (λ y. Lays (cells b 0 0 done) p [] y) (sym (append-nil done)) no_field
  cells_lay w (None ∷ cs) done p h =
      let m = map_number cs in
      let e : 2 * m / 2 ≡ m = omega arith in
      let s = cells_none b (length cs) (2 * m) done (omega arith) ∙ ap (λ x. cells b (length cs) x (done ++ None ∷ [])) e in
      subst (λ l. Lays l p (numbers cs) (done ++ None ∷ cs)) (sym s)
      (subst (λ y. Lays (cells b (length cs) m (done ++ None ∷ [])) p (numbers cs) y) (append_assoc done (None ∷ []) cs) (cells_lay w cs (done ++ None ∷ []) p h.1))
  cells_lay w (Some a ∷ cs) done p h =
      let m = map_number cs in
      let e : (1 + 2 * m) / 2 ≡ m = omega arith in
      let more = λ (x : ℤ). cells b (length cs) m (done ++ Some x ∷ []) in
      let s = cells_some b (length cs) (1 + 2 * m) done (λ z. omega arith)
      ∙ ap (λ y. then (number_in b Coefficient) (λ x. cells b (length cs) y (done ++ Some x ∷ []))) e in
      subst (λ l. Lays l p (numbers (Some a ∷ cs)) (done ++ Some a ∷ cs)) (sym s)
      (then_lays (number_in b Coefficient) more p (bytes_of 4 (complement a)) (numbers cs) a (done ++ Some a ∷ cs) (complement_lays b Coefficient p w a h.0)
      (λ q. subst (λ y. Lays (more a) q (numbers cs) y) (append_assoc done (Some a ∷ []) cs) (cells_lay w cs (done ++ Some a ∷ []) q h.1)))

  cells_laid :
      (k m : ℕ) (done : List (Option ℤ)) (p : ℕ) (bytes : List ℕ) (out : List (Option ℤ)) → m < 2 ^ k → Lays (cells b k m done) p bytes out
      → (cs : List (Option ℤ)) × (length cs ≡ k) × (map_number cs ≡ m) × BoundedCells b cs × (bytes ≡ numbers cs) × (out ≡ done ++ cs)
  unfolding cells
  cells_laid zero m done p bytes out h t =
      let d = gives_laid done p bytes out t in ([], refl, omega arith, tt, d.0, d.1 ∙ sym (append-nil done))
  cells_laid (suc k) m done p bytes out h t =
      ⊎_elim
      (λ (z : m % 2 ≡ 0).
      let i = cells_laid k (m / 2) (done ++ None ∷ []) p bytes out (omega (arith, pow-suc 2 k)) (subst (λ l. Lays l p bytes out) (cells_none b k m done z) t) in
      (None ∷ i.0, ap suc i.1, omega (arith, i.2), (tt, i.3), i.4, i.5 ∙ append_assoc done (None ∷ []) i.0))
      (λ (z : m % 2 ≡ 0 → ⊥).
      let d = then_laid (number_in b Coefficient) _ p bytes out (subst (λ l. Lays l p bytes out) (cells_some b k m done z) t) in
      let a = d.given in
      let c = complement_laid b Coefficient p d.front a d.first in
      let i = cells_laid k (m / 2) (done ++ Some a ∷ []) d.at d.back out (omega (arith, pow-suc 2 k)) d.second in (
        Some a ∷ i.0,
        ap suc i.1,
        omega (arith, i.2),
        (c.1, i.3),
        d.whole ∙ ap (λ x. x ++ d.back) c.0 ∙ ap (λ x. bytes_of 4 (complement a) ++ x) i.4,
        i.5 ∙ append_assoc done (Some a ∷ []) i.0,
      ))
      (cases_eq (m % 2) 0)

  row_lays : (n : ℕ) → n ≤ 32 → Narrow b → (cs : List (Option ℤ)) (p : ℕ) → length cs ≡ n → BoundedCells b cs → Lays (row_of b n) p (row_written cs) cs
  row_lays n few w cs p e h =
      let m = map_number cs in
      let l : m < 2 ^ n = subst (λ x. m < 2 ^ x) e (map_below cs) in
      then_lays (map_of n) (λ x. cells b n x []) p (bytes_of 4 m) (numbers cs) m cs
      (checked_lays 4 Bit (λ x. ltb x (2 ^ n)) p m (omega (arith, pow_mono few)) (lt-ltb m (2 ^ n) l))
      (λ q. subst (λ x. Lays (cells b x m []) q (numbers cs) cs) e (cells_lay w cs [] q h))

  row_laid :
      (n p : ℕ) (bytes : List ℕ) (out : List (Option ℤ)) → Lays (row_of b n) p bytes out → (length out ≡ n) × BoundedCells b out × (bytes ≡ row_written out)
  row_laid n p bytes out t =
      let d = then_laid (map_of n) (λ x. cells b n x []) p bytes out t in
      let m = d.given in
      let c = checked_laid 4 Bit (λ x. ltb x (2 ^ n)) p d.front m d.first in
      let i = cells_laid n m [] d.at d.back out (ltb-true m (2 ^ n) c.1) d.second in
      let s = sym i.5 in (
        (subst (λ x. length x ≡ n) s i.1),
        subst (BoundedCells b) s i.3,
        d.whole ∙ ap (λ x. x ++ d.back) (c.2 ∙ ap (bytes_of 4) (sym i.2)) ∙ ap (λ x. bytes_of 4 (map_number i.0) ++ x) i.4 ∙ ap row_written s,
      )

  -- ---- one row after another

  module _ (n : ℕ) where
    pub rows_lay :
        n ≤ 32 → Narrow b → (rows : List (List (Option ℤ))) (i : ℕ) (done : List (Option ℤ)) (p : ℕ) → SoundRows b n rows
        → Lays (rows_of b n (length rows) i done) p (rows_written rows) (done ++ joined rows)
    unfolding rows_of
    rows_lay few w [] i done p h = subst (λ y. Lays (rows_of b n 0 i done) p [] y) (sym (append-nil done)) no_field
    rows_lay few w (cs ∷ rows) i done p h =
        let more = λ (row : List (Option ℤ)). rows_of b n (length rows) (suc i) (done ++ row) in
        then_lays (told (on_line i) (row_of b n)) more p (row_written cs) (rows_written rows) cs (done ++ (cs ++ joined rows))
        (told_lays (on_line i) (row_of b n) p (row_written cs) cs (row_lays n few w cs p h.0 h.1))
        (λ q. subst (λ y. Lays (more cs) q (rows_written rows) y) (append_assoc done cs (joined rows)) (rows_lay few w rows (suc i) (done ++ cs) q h.2))

    pub rows_laid :
        (k i : ℕ) (done : List (Option ℤ)) (p : ℕ) (bytes : List ℕ) (out : List (Option ℤ)) → Lays (rows_of b n k i done) p bytes out
        → (rows : List (List (Option ℤ))) × (length rows ≡ k) × SoundRows b n rows × (bytes ≡ rows_written rows) × (out ≡ done ++ joined rows)
    unfolding rows_of
    rows_laid zero i done p bytes out t = let d = gives_laid done p bytes out t in ([], refl, tt, d.0, d.1 ∙ sym (append-nil done))
    rows_laid (suc k) i done p bytes out t =
        let d = then_laid (told (on_line i) (row_of b n)) _ p bytes out t in
        let cs = d.given in
        let c = row_laid n p d.front cs (told_laid (on_line i) (row_of b n) p d.front cs d.first) in
        let j = rows_laid k (suc i) (done ++ cs) d.at d.back out d.second in (
          cs ∷ j.0,
          ap suc j.1,
          (c.0, c.1, j.2),
          d.whole ∙ ap (λ x. x ++ d.back) c.2 ∙ ap (λ x. row_written cs ++ x) j.3,
          j.4 ∙ append_assoc done cs (joined j.0),
        )
