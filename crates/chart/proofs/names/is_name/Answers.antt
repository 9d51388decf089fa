use Rattle.std.proofs.Common.{◌≡◌, ℕ, Bool, true, false, not, ◌&&◌, List, [], ◌∷◌, refl, sym, ap, ◌∙◌, rules, tests}
use Rattle.std.specs.List.{list_all}
use Rattle.std.proofs.lemmas.Iterator.{YieldsList-from_slice}
use Rattle.std.proofs.lemmas.Iterator.Search.{all_from_yields_List}
use Rattle.std.proofs.lemmas.Bool.{le-leb}
use Rattle.chart.proofs.Bools.{join}
use Rattle.chart.specs.WellFormed.{every, is_name_byte}
use Rattle.chart.proofs.names.is_name.Goals as goal

every_is : (p : ℕ → Bool) (xs : List ℕ) → list_all p xs ≡ every p xs
every_is p [] = refl
every_is p (x ∷ xs) = ap (λ b. p x && b) (every_is p xs)

between_two : (b : Bool) → b ≡ (true && b && not false)
between_two true = refl
between_two false = refl

alone : (a b c : Bool) → a ≡ true → false ≡ c → b ≡ (a && b && not c)
alone a b c e f = rw (e, sym f) (between_two b)

pub returns : goal.returns
returns c =
    let name = c.args.name.now in
    let ran : c.all.result ≡ list_all is_name_byte name = all_from_yields_List is_name_byte _ _ c.all.result c.all.ensures.ran (YieldsList-from_slice name cc) (λ x b q k. search (rules, tests)) in
    let long = join _ _ (le-leb _ _ c.in-len1-up.len_at_least) (le-leb _ _ c.if-name-gt-LONGEST_NAME.false) in
    ran ∙ every_is is_name_byte name ∙ alone _ _ _ long c.if-is_ascii_digit.ensures.value
