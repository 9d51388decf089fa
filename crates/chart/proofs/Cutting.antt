-- What stands in front of the bytes that are left.
use Rattle.std.proofs.Common.{◌≡◌, ℕ, ◌+◌, ◌*◌, ◌<◌, ◌≤◌, List, [], ◌∷◌, ◌++◌, length, get_or, take, drop, sym, ap, ◌∙◌, arith, take-append-drop, length-take-le, drop-drop}
use Rattle.chart.specs.Fields.{word}
use Rattle.chart.specs.Files.{piece}
use Rattle.chart.specs.Pieces.{Whole}
use Rattle.chart.proofs.Bytes.{word_back}

-- a whole piece and what is behind it
pub split : (a h l : ℕ) (t : List ℕ) → h < 256 → l < 256 → h * 256 + l ≤ length t → a ∷ (h ∷ (l ∷ t)) ≡ piece a (take (h * 256 + l) t) ++ drop (h * 256 + l) t
split a h l t high low fits =
    let size = h * 256 + l in
    let c = take size t in
    let head : piece a c ≡ a ∷ (h ∷ (l ∷ c)) = ap (λ n. a ∷ word n c) (length-take-le size t fits) ∙ ap (λ r. a ∷ r) (word_back h l c high low) in
    sym (ap (λ x. x ++ drop size t) head ∙ ap (λ r. a ∷ (h ∷ (l ∷ r))) (take-append-drop size t))

whole_from : (a h l : ℕ) (t : List ℕ) → h < 256 → l < 256 → h * 256 + l ≤ length t → Whole (a ∷ (h ∷ (l ∷ t))) a (take (h * 256 + l) t)
whole_from a h l t high low fits =
    let size = h * 256 + l in
    let c = take size t in
    let behind : drop (3 + length c) (a ∷ (h ∷ (l ∷ t))) ≡ drop size t = sym (drop-drop (length c) 3 (a ∷ (h ∷ (l ∷ t)))) ∙ ap (λ n. drop n t) (length-take-le size t fits) in
    split a h l t high low fits ∙ ap (λ r. piece a c ++ r) (sym behind)

pub whole : (r : List ℕ) → 3 ≤ length r → get_or r 1 0 < 256 → get_or r 2 0 < 256 → get_or r 1 0 * 256 + get_or r 2 0 ≤ length (drop 3 r) → Whole r (get_or r 0 0) (take (get_or r 1 0 * 256 + get_or r 2 0) (drop 3 r))
whole [] three high low fits = absurd (omega arith)
whole (a ∷ []) three high low fits = absurd (omega arith)
whole (a ∷ (h ∷ [])) three high low fits = absurd (omega arith)
whole (a ∷ (h ∷ (l ∷ t))) three high low fits = whole_from a h l t high low fits
