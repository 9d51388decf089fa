-- Counts of fields and limits.
use Rattle.std.proofs.Common.{◌≡◌, ◌+◌, ◌≤◌, Bool, true, not, List, [], ◌∷◌, reverse, is_some, Some, None, Option, refl, ap, arith, le-ltb}
use mathlib.Core.List.{reverse_aux}
use Rattle.std.proofs.lemmas.Bool.Decides.{nat_tests}
use Rattle.chart.specs.declared.limits.Counts.{Counts}
use Rattle.chart.specs.declared.kinds.Tag.TheVariants.{Signal, State, Graph, Transition}
use Rattle.chart.specs.declared.refusals.Limit.{Limit}
use Rattle.chart.specs.Fields.{Field, is, is_input}
use Rattle.chart.specs.Limits.{count, counts_of, exceeded, within_limits}

-- the fields put one by one in front of others
pub count_onto : (p : Field → Bool) (fs bs : List Field) → count p (reverse_aux fs bs) ≡ count p fs + count p bs
count_onto p [] bs = omega arith
count_onto p (f ∷ fs) bs = let e = count_onto p fs (f ∷ bs) in omega arith

-- all counts are within their limits
pub record Within (c : Counts) : Type 0 where
  pub signals : c.signals ≤ 128
  pub inputs : c.inputs ≤ 64
  pub states : c.states ≤ 256
  pub graphs : c.graphs ≤ 128
  pub transitions : c.transitions ≤ 512

pub within : (c : Counts) → exceeded c ≡ None → Within c
within c e = record { signals = grind (arith, nat_tests); inputs = grind (arith, nat_tests); states = grind (arith, nat_tests); graphs = grind (arith, nat_tests); transitions = grind (arith, nat_tests) }

pub none_exceeded : (c : Counts) → Within c → exceeded c ≡ None
none_exceeded c w = rw (le-ltb 128 c.signals w.signals, le-ltb 64 c.inputs w.inputs, le-ltb 256 c.states w.states, le-ltb 128 c.graphs w.graphs, le-ltb 512 c.transitions w.transitions)

pub within_none : (fs : List Field) → within_limits fs ≡ true → exceeded (counts_of fs) ≡ None
within_none fs h = go (exceeded (counts_of fs)) h
  where
    go : (o : Option Limit) → not (is_some o) ≡ true → o ≡ None
    go None h = refl
    go (Some l) h = (cc)

pub none_within : (fs : List Field) → exceeded (counts_of fs) ≡ None → within_limits fs ≡ true
none_within fs e = ap (λ o. not (is_some o)) e

-- limits that hold of more fields hold of fewer
pub fewer : (fs bs : List Field) → exceeded (counts_of (reverse_aux fs bs)) ≡ None → exceeded (counts_of bs) ≡ None
fewer fs bs e =
    let w = within (counts_of (reverse_aux fs bs)) e in
    none_exceeded (counts_of bs) (record {
      signals = omega (arith, w.signals, count_onto (is Signal) fs bs);
      inputs = omega (arith, w.inputs, count_onto is_input fs bs);
      states = omega (arith, w.states, count_onto (is State) fs bs);
      graphs = omega (arith, w.graphs, count_onto (is Graph) fs bs);
      transitions = omega (arith, w.transitions, count_onto (is Transition) fs bs);
    })

count_reverse : (p : Field → Bool) (fs : List Field) → count p (reverse fs) ≡ count p fs
count_reverse p fs = let e = count_onto p fs [] in omega arith

-- the order does not count
pub counts_reverse : (fs : List Field) → counts_of (reverse fs) ≡ counts_of fs
counts_reverse fs = λ j. record {
  signals = count_reverse (is Signal) fs j;
  inputs = count_reverse is_input fs j;
  states = count_reverse (is State) fs j;
  graphs = count_reverse (is Graph) fs j;
  transitions = count_reverse (is Transition) fs j;
}
