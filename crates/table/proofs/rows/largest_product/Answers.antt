use Rattle.std.proofs.Common.{◌≡◌, [], ◌∷◌, zip, fold, ℤ, ◌∙◌, ap, sym, rules}
use Rattle.std.specs.Int.{int_max}
use Rattle.std.proofs.lemmas.List.Sums.{fold-append}
use Rattle.std.proofs.lemmas.Iterator.{zips, YieldsList-from_slice, YieldsList-from_zip}
use Rattle.std.proofs.lemmas.Fn.{fold_over, fronts}
use Rattle.scale.specs.Algebra.{product_of}
use Rattle.table.specs.Cells.{asked}
use Rattle.table.specs.Folds.{largest_folded}
use Rattle.table.proofs.rows.largest_product.Goals as goal

pub returns : goal.returns
returns g c =
    let s = g.S.Scale.algebra in
    let cells = c.args.cells.now in
    let starts = c.args.starts.now in
    let low = c.args.low in
    let f : ℤ → ℤ × ℤ → ℤ = λ top p. int_max top (product_of s (asked p.0) p.1) in
    let e : c.fold.result ≡ fold f low (zip cells starts) = fold_over (zips fronts fronts) (λ p. (p.0.now, p.1.now)) _ (λ ps a. a ≡ fold f low ps) _
    (λ ps a p b q h k.
    let one : b ≡ f a (p.0.now, p.1.now) = search rules in
    (one ∙ ap (λ (z : ℤ). f z (p.0.now, p.1.now)) h ∙ sym (fold-append f low ps ((p.0.now, p.1.now) ∷ [])), search rules))
    c.zip.result (zip cells starts) _ _ (YieldsList-from_zip (YieldsList-from_slice cells (search rules)) (YieldsList-from_slice starts (search rules))).runs
    (search rules) c.fold.ensures.ran in
    let all = e ∙ largest_folded (λ a x. product_of s (asked a) x) low cells starts c.requires in
    search rules
