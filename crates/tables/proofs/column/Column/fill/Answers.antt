use Rattle.std.proofs.Common.{◌≡◌, ℕ, ◌<◌, ◌≤◌, Bool, cond, List, length, Some, None, Option, vec_items, sym, ap, ◌∙◌, subst, subst₂, arith}
use Rattle.chart.specs.Fields.{Field, encode_all}
use Rattle.validity.specs.Parts.{at}
use Rattle.tables.specs.Copied.{fields_in}
use Rattle.tables.proofs.Filling.{Filled, filled_more, filled_same, filled_all, more_to_come}
use Rattle.tables.proofs.column.Column.fill.Goals as goal

-- the same of the same fields and index
moved : {A : Type 0} (makes : Field → Bool) (row : List Field → ℕ → A) (o : Option A) (fs gs : List Field) (i k : ℕ) → fs ≡ gs → i ≡ k → o ≡ cond (makes (at fs i)) (Some (row fs i)) None → o ≡ cond (makes (at gs k)) (Some (row gs k)) None
moved makes row o fs gs i k files indices h = h ∙ (λ j. cond (makes (at (files j) (indices j))) (Some (row (files j) (indices j))) None)

pub push_reserved-requires : goal.push_reserved-requires
push_reserved-requires g c =
    let file = c.args.file.now in
    let fs = fields_in file in
    let v = c.loop-field.self.rows in
    let f = c.in-Some.field in
    let i = c.loop-field.field-iterator.index in
    let step = c.in-Some.ensures.steps.1 in
    let files : fields_in f.file.now ≡ fs = ap fields_in (step.0 ∙ c.loop-field.invariant.0) in
    let below : i < length fs = omega (arith, f.inside, ap length files, step.1) in
    let made = moved g.P.Part.makes g.P.Part.row (Some c.in-Some-of.row) (fields_in f.file.now) fs f.index i files step.1 c.in-Some-of.ensures in
    let sized : length (encode_all fs) ≤ 16384 = omega (arith, file.most, file.bytes.ok.0, ap length file.passed) in
    let few = more_to_come g.P.Part.makes fs (g.P.Part.row fs) i (vec_items v) c.in-Some-of.row below made c.loop-field.invariant.1 in
    omega (arith, few, v.ok.0, g.met.P.Part.few fs file.row sized, c.loop-field.self.room)

pub loop-field-preserved-in-Some-of : goal.loop-field-preserved-in-Some-of
loop-field-preserved-in-Some-of g c =
    let fs = fields_in c.args.file.now in
    let f = c.in-Some.field in
    let i = c.loop-field.field-iterator.index in
    let steps = c.in-Some.ensures.steps in
    let step = steps.1 in
    let makes = g.P.Part.makes in
    let row = g.P.Part.row fs in
    let files : fields_in f.file.now ≡ fs = ap fields_in (step.0 ∙ c.loop-field.invariant.0) in
    let below : i < length fs = omega (arith, f.inside, ap length files, step.1) in
    let made = moved makes g.P.Part.row (Some c.in-Some-of.row) (fields_in f.file.now) fs f.index i files step.1 c.in-Some-of.ensures in
    let more = filled_more makes fs row i (vec_items c.loop-field.self.rows) c.in-Some-of.row below made c.loop-field.invariant.1 in
    (steps.0 ∙ c.loop-field.invariant.0, subst₂ (Filled makes fs row) (sym step.2) (sym c.push_reserved.ensures.items) more)

pub loop-field-preserved : goal.loop-field-preserved
loop-field-preserved g c =
    let fs = fields_in c.args.file.now in
    let f = c.in-Some.field in
    let i = c.loop-field.field-iterator.index in
    let steps = c.in-Some.ensures.steps in
    let step = steps.1 in
    let makes = g.P.Part.makes in
    let row = g.P.Part.row fs in
    let files : fields_in f.file.now ≡ fs = ap fields_in (step.0 ∙ c.loop-field.invariant.0) in
    let below : i < length fs = omega (arith, f.inside, ap length files, step.1) in
    let made = moved makes g.P.Part.row None (fields_in f.file.now) fs f.index i files step.1 c.in_default.ensures in
    let same = filled_same makes fs row i (vec_items c.loop-field.self.rows) below made c.loop-field.invariant.1 in
    (steps.0 ∙ c.loop-field.invariant.0, subst (λ k. Filled makes fs row k (vec_items c.loop-field.self.rows)) (sym step.2) same)

pub returns : goal.returns
returns g c =
    let fs = fields_in c.args.file.now in
    let v = c.loop-field.self.rows in
    let i = c.loop-field.field-iterator.index in
    let files = ap (λ f. length (fields_in f)) c.loop-field.invariant.0 in
    let end : length fs ≤ i = omega (arith, c.in-None.ensures.steps.1, files) in
    record {
      counted = filled_all g.P.Part.makes fs (g.P.Part.row fs) i (vec_items v) end c.loop-field.invariant.1;
      told = c.loop-field.invariant.1.told;
    }
