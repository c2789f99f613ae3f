-- A layout reads what is written by it. Assumes nothing.
use Rattle.std.proofs.Common.{◌≡◌, ℕ, zero, suc, ◌+◌, ◌*◌, ◌/◌, ◌%◌, ◌^◌, ◌<◌, ◌≤◌, true, false, leb, ◌⊎◌, List, [], ◌∷◌, ◌++◌, length, get_or, take, drop, sym, refl, ap, ◌∙◌, subst, inl, inr, add-zero, pow-suc, add-one, arith}
use Rattle.std.proofs.lemmas.List.{append_assoc, length-append, get_or-append-add, get_or_at, take_more, get_or-drop, length-drop, take-append-drop, drop-drop}
use Rattle.layout.specs.Layouts.{Layout, gives, fails, field, reached, refused, reads, value}
use Rattle.std.proofs.lemmas.Bool.Decides.{leb_tells}
use Rattle.layout.specs.Writing.{bytes_of, Lays, no_field, one_field, Breaks, wrong, cut, later, Bytes}
use Rattle.layout.proofs.Outcomes.{reads_whole, reads_short, reads_gives}

pub length_bytes : (w v : ℕ) → length (bytes_of w v) ≡ w
unfolding bytes_of
length_bytes zero v = refl
length_bytes (suc w) v = length-append (bytes_of w (v / 256)) (v % 256 ∷ []) ∙ omega (arith, length_bytes w (v / 256))

pub value_bytes : (w v : ℕ) (before after : List ℕ) → v < 256 ^ w → value (before ++ (bytes_of w v ++ after)) (length before) w ≡ v
unfolding bytes_of value
value_bytes zero v before after h = omega arith
value_bytes (suc w) v before after h =
    let d = v % 256 in
    let high = bytes_of w (v / 256) in
    let s : before ++ ((high ++ d ∷ []) ++ after) ≡ before ++ (high ++ d ∷ after) = ap (λ x. before ++ x) (append_assoc high (d ∷ []) after) in
    let i = value_bytes w (v / 256) before (d ∷ after) (omega (arith, pow-suc 256 w)) in
    let g : get_or (before ++ (high ++ d ∷ after)) (length before + w) 0 ≡ d =
    get_or-append-add before (high ++ d ∷ after) w 0 ∙ get_or_at high d after 0 w (length_bytes w (v / 256)) in
    ap (λ f. value f (length before) w * 256 + get_or f (length before + w) 0) s ∙ omega (arith, i, g)

-- a field that is written is read
pub field_written :
    {F A : Type 0} (w v : ℕ) (short : ℕ → F) (next : ℕ → ℕ → Layout F A) (before rest : List ℕ) → v < 256 ^ w
    → reads (field w short next) (before ++ (bytes_of w v ++ rest)) (length before)
    ≡ reads (next (length before) v) ((before ++ bytes_of w v) ++ rest) (length (before ++ bytes_of w v))
field_written w v short next before rest h =
    let file = before ++ (bytes_of w v ++ rest) in
    let n : length before + w ≤ length file =
    omega (arith, length-append before (bytes_of w v ++ rest), length-append (bytes_of w v) rest, length_bytes w v) in
    let m : length before + w ≡ length (before ++ bytes_of w v) = sym (length-append before (bytes_of w v) ∙ ap (λ x. length before + x) (length_bytes w v)) in
    reads_whole w short next file (length before) n
    ∙ ap (λ x. reads (next (length before) x) file (length before + w)) (value_bytes w v before rest h)
    ∙ ap (reads (next (length before) v) file) m
    ∙ ap (λ f. reads (next (length before) v) f (length (before ++ bytes_of w v))) (sym (append_assoc before (bytes_of w v) rest))

pub reads_written :
    {F A : Type 0} (l : Layout F A) (before bytes after : List ℕ) (p : ℕ) (a : A) → Lays l p bytes a → p ≡ length before
    → reads l (before ++ (bytes ++ after)) (length before) ≡ reached a (length before + length bytes)
reads_written (gives a) before _ after p _ no_field e = reads_gives a _ _ ∙ ap (reached a) (sym (add-zero _))
reads_written (fails g) before bytes after p a t e = elim t [ ]
reads_written (field w short next) before _ after p a (one_field {rest = rest} v h t) e =
    let mid = before ++ bytes_of w v in
    let k : p + w ≡ length mid = sym (length-append before (bytes_of w v) ∙ omega (arith, length_bytes w v)) in
    let t2 : Lays (next (length before) v) (p + w) rest a = subst (λ x. Lays (next x v) (p + w) rest a) e t in
    let r = reads_written (next (length before) v) mid rest after (p + w) a t2 k in
    ap (λ f. reads (field w short next) (before ++ f) (length before)) (append_assoc (bytes_of w v) rest after)
    ∙ field_written w v short next before (rest ++ after) h
    ∙ r
    ∙ ap (reached a) (omega (arith, length-append before (bytes_of w v), length-append (bytes_of w v) rest))

pub finds_first :
    {F A : Type 0} (l : Layout F A) (before bytes : List ℕ) (p : ℕ) (f : F) → Breaks l p bytes f → p ≡ length before
    → reads l (before ++ bytes) (length before) ≡ refused f
unfolding reads
finds_first (gives g) before bytes p f t e = elim t [ ]
finds_first (fails f) before bytes p _ wrong e = refl
finds_first (field w short next) before bytes p _ (cut h) e =
    reads_short w short next (before ++ bytes) (length before) (omega (arith, length-append before bytes)) ∙ ap (λ x. refused (short x)) (sym e)
finds_first (field w short next) before _ p f (later {rest = rest} v h t) e =
    let mid = before ++ bytes_of w v in
    let k : p + w ≡ length mid = sym (length-append before (bytes_of w v) ∙ omega (arith, length_bytes w v)) in
    let t2 : Breaks (next (length before) v) (p + w) rest f = subst (λ x. Breaks (next x v) (p + w) rest f) e t in
    field_written w v short next before rest h ∙ finds_first (next (length before) v) mid rest (p + w) f t2 k

-- the bytes of a field, from its number
pub value_below : (w : ℕ) (file : List ℕ) (p : ℕ) → Bytes file → value file p w < 256 ^ w
unfolding value
value_below zero file p b = omega arith
value_below (suc w) file p b = omega (arith, pow-suc 256 w, value_below w file p b, b (p + w))

pub bytes_value : (w : ℕ) (file : List ℕ) (p : ℕ) → Bytes file → p + w ≤ length file → take w (drop p file) ≡ bytes_of w (value file p w)
unfolding value bytes_of
bytes_value zero file p b h = refl
bytes_value (suc w) file p b h =
    let d = get_or file (p + w) 0 in
    let v = value file p w in
    let low = b (p + w) in
    let l : w < length (drop p file) = omega (arith, length-drop p file) in
    let q : (v * 256 + d) / 256 ≡ v = omega arith in
    let r : (v * 256 + d) % 256 ≡ d = omega arith in
    ap (λ x. take x (drop p file)) (sym (add-one w)) ∙ take_more (drop p file) w 0 l
    ∙ ap (λ x. take w (drop p file) ++ x ∷ []) (get_or-drop p file w 0)
    ∙ ap (λ x. x ++ d ∷ []) (bytes_value w file p b (omega arith))
    ∙ ap (λ x. bytes_of w x ++ d ∷ []) (sym q) ∙ ap (λ x. bytes_of w ((v * 256 + d) / 256) ++ x ∷ []) (sym r)

-- what is left of the file at a field: its bytes, and what follows
pub split_field : (w : ℕ) (file : List ℕ) (p : ℕ) → Bytes file → p + w ≤ length file → drop p file ≡ bytes_of w (value file p w) ++ drop (p + w) file
split_field w file p b h =
    sym (take-append-drop w (drop p file)) ∙ ap (λ x. take w (drop p file) ++ x) (drop-drop w p file)
    ∙ ap (λ x. x ++ drop (p + w) file) (bytes_value w file p b h)

module _ {F A : Type 0} (file : List ℕ) (b : Bytes file) where
  pub lays_read :
      (l : Layout F A) (p q : ℕ) (a : A) → reads l file p ≡ reached a q → (bytes : List ℕ) × Lays l p bytes a × (drop p file ≡ bytes ++ drop q file)
  unfolding reads
  lays_read (gives x) p q a e =
      let s : x ≡ a = cc in
      let t : p ≡ q = cc in
      ([], subst (λ y. Lays {F = F} (gives x) p [] y) s no_field, ap (λ y. drop y file) t)
  lays_read (fails f) p q a e = let z : ◌≡◌ {A = ℕ} 0 1 = cc in absurd (omega arith)
  lays_read (field w short next) p q a e =
      go (λ k. lays_read (next p (value file p w)) (p + w) q a k) (leb_tells (p + w) (length file))
    where
      go :
          (reads (next p (value file p w)) file (p + w) ≡ reached a q
          → (bytes : List ℕ) × Lays (next p (value file p w)) (p + w) bytes a × (drop (p + w) file ≡ bytes ++ drop q file))
          → ((leb (p + w) (length file) ≡ true) × (p + w ≤ length file)) ⊎ ((leb (p + w) (length file) ≡ false) × (length file < p + w))
          → (bytes : List ℕ) × Lays (field w short next) p bytes a × (drop p file ≡ bytes ++ drop q file)
      go ih (inl h) =
          let i = ih (sym (reads_whole w short next file p h.1) ∙ e) in
          let v = value file p w in (
            bytes_of w v ++ i.0,
            one_field v (value_below w file p b) i.1,
            split_field w file p b h.1 ∙ ap (λ x. bytes_of w v ++ x) i.2 ∙ sym (append_assoc (bytes_of w v) i.0 (drop q file)),
          )
      go ih (inr h) =
          let s = sym (reads_short w short next file p h.1) ∙ e in
          let z : ◌≡◌ {A = ℕ} 0 1 = cc in
          absurd (omega arith)

  pub breaks_read : (l : Layout F A) (p : ℕ) (f : F) → p ≤ length file → reads l file p ≡ refused f → Breaks l p (drop p file) f
  unfolding reads
  breaks_read (gives x) p f l e = let z : ◌≡◌ {A = ℕ} 0 1 = cc in absurd (omega arith)
  breaks_read (fails g) p f l e = let s : g ≡ f = cc in subst (λ y. Breaks {A = A} (fails g) p (drop p file) y) s wrong
  breaks_read (field w short next) p f l e =
      go (λ m k. breaks_read (next p (value file p w)) (p + w) f m k) (leb_tells (p + w) (length file))
    where
      go :
          (p + w ≤ length file → reads (next p (value file p w)) file (p + w) ≡ refused f → Breaks (next p (value file p w)) (p + w) (drop (p + w) file) f)
          → ((leb (p + w) (length file) ≡ true) × (p + w ≤ length file)) ⊎ ((leb (p + w) (length file) ≡ false) × (length file < p + w))
          → Breaks (field w short next) p (drop p file) f
      go ih (inl h) =
          let i = ih h.1 (sym (reads_whole w short next file p h.1) ∙ e) in
          subst (λ x. Breaks (field w short next) p x f) (sym (split_field w file p b h.1)) (later (value file p w) (value_below w file p b) i)
      go ih (inr h) =
          let s = sym (reads_short w short next file p h.1) ∙ e in
          let t : short p ≡ f = cc in
          subst (λ y. Breaks (field w short next) p (drop p file) y) t (cut (omega (arith, length-drop p file)))
