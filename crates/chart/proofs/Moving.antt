-- What the reader's next call finds, from where it stands.
use Rattle.std.proofs.Common.{◌≡◌, ℕ, ◌+◌, ◌-◌, ◌/◌, ◌%◌, ◌<◌, ◌≤◌, true, List, [], ◌∷◌, ◌++◌, reverse, length, take, drop, Some, None, Ok, Err, Option, Result, sym, refl, ap, ◌∙◌, subst}
use borrow.Author.Rules.{part_to_end}
use Rattle.std.specs.Result.{IsErrAnd}
use Rattle.chart.specs.declared.fields.Placed.{Placed}
use Rattle.chart.specs.declared.kinds.Tag.{Tag}
use Rattle.chart.specs.declared.limits.Counts.{Counts}
use Rattle.chart.specs.declared.order.Stage.{Stage}
use Rattle.chart.specs.declared.reader.Reader.{Reader}
use Rattle.chart.specs.declared.refusals.Limit.{Limit}
use Rattle.chart.specs.declared.refusals.Refusal.{Refusal}
use Rattle.chart.specs.declared.refusals.Refusal.TheVariants.{CutShort, BeyondLimit}
use Rattle.chart.specs.Kinds.{tag_code}
use Rattle.chart.specs.Fields.{Field, tag_of, word}
use Rattle.chart.specs.WellFormed.{every, is_byte}
use Rattle.chart.specs.Order.{may_follow}
use Rattle.chart.specs.Limits.{counts_of, exceeded, added, unless, raised}
use Rattle.chart.specs.Decoding.{word_at}
use Rattle.chart.specs.Files.{is_row, Sized, piece, Refused, cut_short}
use Rattle.chart.specs.Pieces.{Whole}
use Rattle.chart.specs.Progress.{before, or_beyond, Position, Next}
use Rattle.chart.specs.Reading.{judge}
use Rattle.chart.specs.Stages.{admits, after, stage_of}
use Rattle.chart.proofs.Bytes.{byte_rest, bytes_front, drop_bytes}
use Rattle.chart.proofs.Following.{stage_admits}
use Rattle.chart.specs.Laws.{Written}
use Rattle.chart.proofs.Judging.{Judged, judged, judged_fault, judged_written, judged_stands, limit_fault}
use Rattle.chart.proofs.Results.{ok_same, err_same, err_ok}
use Rattle.chart.proofs.Rows.{Stands, good, reverse_push}
use Rattle.chart.proofs.Stepping.{refused, after_within, row_more, before_more, passed_more}

unless_err : (o : Option Limit) (c : Counts) (l : Limit) → Err l ≡ unless o c → o ≡ Some l
unless_err None c l e = err_ok l c e
unless_err (Some k) c l e = ap Some (err_same k l (sym e))

unless_ok : (o : Option Limit) (c d : Counts) → Ok d ≡ unless o c → (o ≡ None) × (d ≡ c)
unless_ok None c d e = (refl, ok_same d c e)
unless_ok (Some k) c d e = err_ok k d (sym e)

beyond_err : (p : ℕ) (r : Result Counts Limit) (e : Refusal) → Err e ≡ or_beyond p r → (l : Limit) × (Err l ≡ r) × (e ≡ BeyondLimit p l)
beyond_err p (Ok c) e h = err_ok e c h
beyond_err p (Err l) e h = (l, refl, err_same e (BeyondLimit p l) h)

beyond_ok : (p : ℕ) (r : Result Counts Limit) (c : Counts) → Ok c ≡ or_beyond p r → Ok c ≡ r
beyond_ok p (Ok d) c h = ap Ok (ok_same c d h)
beyond_ok p (Err l) c h = err_ok (BeyondLimit p l) c (sym h)

-- a refusal that is handed on
pub refused_next : (r : Reader) (o : Result (Option Placed) Refusal) (d : Refusal) → IsErrAnd o (λ e. e ≡ d) → Refused r.bytes.now d → Next r.bytes.now r.at o r.at
refused_next r (Ok p) d h f = absurd h
refused_next r (Err e) d h f = (subst (Refused r.bytes.now) (sym h) f, refl)

-- the bytes that are left, as the code cuts them off
abbrev pub left : Reader → List ℕ
left r = take (length r.bytes.now - r.at) (drop r.at r.bytes.now)

pub left_is : (r : Reader) → left r ≡ drop r.at r.bytes.now
left_is r = part_to_end r.bytes.now r.at

module _ (r : Reader) (sized : Sized r.bytes.now) where
  abbrev b : List ℕ
  b = r.bytes.now

  abbrev at : ℕ
  at = r.at

  abbrev stage : Stage
  stage = r.stage

  abbrev counts : Counts
  counts = r.counts

  abbrev pos : Position r.bytes.now r.at r.stage r.counts
  pos = r.position

  abbrev rest : List ℕ
  rest = left r

  abbrev is : left r ≡ drop r.at r.bytes.now
  is = left_is r

  abbrev front : List Field
  front = reverse (before b at)

  may : (t : Tag) → admits stage t ≡ may_follow front t
  may t = ap (λ s. admits s t) pos.staged ∙ stage_admits (before b at) (good (before b at) pos.row).order t

  pub cut_refused : 1 ≤ length rest → (3 ≤ length rest → length rest < 3 + word_at rest 1) → Refused b (CutShort at)
  cut_refused some less = refused b at pos.within pos.passed pos.row sized rest is (CutShort at) (cut_short some less)

  module _ (bytes : every is_byte b ≡ true) (code : ℕ) (c : List ℕ) (whole : Whole rest code c) where
    pub fault_refused : (e : Refusal) → Err e ≡ judge (admits stage) at code c → Refused b e
    fault_refused e j = refused b at pos.within pos.passed pos.row sized rest is e (judged_fault (admits stage) front may at code c (drop (3 + length c) rest) rest whole e (sym j))

    contents_bytes : every is_byte c ≡ true
    contents_bytes =
        let all : every is_byte (piece code c ++ drop (3 + length c) rest) ≡ true = subst (λ r. every is_byte r ≡ true) (sym is ∙ whole) (drop_bytes at b bytes) in
        byte_rest (length c % 256) c (byte_rest (length c / 256) (length c % 256 ∷ c) (byte_rest code (word (length c) c) (bytes_front (piece code c) (drop (3 + length c) rest) all)))

    raised_limits : (f : Field) (o : Option Limit) → exceeded (added counts f) ≡ o → exceeded (counts_of (f ∷ front)) ≡ o
    raised_limits f o e = sym (ap (λ k. exceeded (added k f)) pos.counted) ∙ e

    module _ (f : Field) (j : Ok f ≡ judge (admits stage) at code c) where
      good_field : Judged (admits stage) code c f
      good_field = judged (admits stage) at code c f (sym j)

      limit_refused_by : (l : Limit) → Err l ≡ raised counts f → Refused b (BeyondLimit at l)
      limit_refused_by l r =
          refused b at pos.within pos.passed pos.row sized rest is (BeyondLimit at l)
          (limit_fault (admits stage) front may at code c (drop (3 + length c) rest) rest whole contents_bytes f l good_field (raised_limits f (Some l) (unless_err (exceeded (added counts f)) (added counts f) l r)))

      pub limit_refused : (e : Refusal) → Err e ≡ or_beyond at (raised counts f) → Refused b e
      limit_refused e h =
          let l = beyond_err at (raised counts f) e h in
          subst (Refused b) (sym l.2) (limit_refused_by l.0 l.1)

      module _ (more : Counts) (less : Ok more ≡ or_beyond at (raised counts f)) where
        more_is : (exceeded (added counts f) ≡ None) × (more ≡ added counts f)
        more_is = unless_ok (exceeded (added counts f)) (added counts f) more (beyond_ok at (raised counts f) more less)

        fits : Written (tag_of f) c f × (tag_code (tag_of f) ≡ code) × (admits stage (tag_of f) ≡ true)
        fits = judged_written (admits stage) code c f contents_bytes good_field

        stands : Stands front f
        stands = judged_stands (admits stage) front may code c contents_bytes f good_field (raised_limits f None more_is.0)

        pub row_is : before b (at + 3 + length c) ≡ before b at ++ (f ∷ [])
        row_is = before_more b at pos.within pos.passed pos.row rest is code c whole f fits.0.bytes fits.1 stands

        pub moved : Position b (at + 3 + length c) (after stage f) more
        moved =
            let turned : reverse (before b (at + 3 + length c)) ≡ f ∷ front = ap reverse row_is ∙ reverse_push (before b at) f in
            record {
              within = after_within b at pos.within pos.passed pos.row rest is code c whole f fits.0.bytes fits.1 stands;
              passed = passed_more b at pos.within pos.passed pos.row rest is code c whole f fits.0.bytes fits.1 stands;
              row = ap is_row row_is ∙ row_more b at pos.within pos.passed pos.row rest is code c whole f fits.0.bytes fits.1 stands;
              staged = ap (λ s. after s f) pos.staged ∙ sym (ap stage_of turned);
              counted = more_is.1 ∙ ap (λ k. added k f) pos.counted ∙ sym (ap counts_of turned);
            }
