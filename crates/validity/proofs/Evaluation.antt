-- A trigger has no fault exactly if it is the postfix of an expression that needs at most eight stacked values.
use Rattle.std.proofs.Common.{◌≡◌, ℕ, suc, pred, ◌+◌, ◌<◌, ◌≤◌, Bool, true, false, cond, ltb, ◌↔◌, List, [], ◌∷◌, ◌++◌, length, Some, None, Ok, Err, Option, sym, refl, ap, ◌∙◌, subst, inl, inr, append_assoc, append-nil, arith, ltb-true, le-ltb, lt-ltb, ne_eqb}
use Rattle.std.proofs.str.Laws.{order}
use Rattle.validity.specs.declared.faults.Fault.{Fault}
use Rattle.validity.specs.declared.faults.Fault.TheVariants.{UnknownOperator, MissingOperand, TooManyStacked, NotOneValue}
use Rattle.validity.specs.Triggers.{pushed, operated, stacked, onwards, postfix_fault}
use Rattle.validity.specs.Expressions.{Expression, present, always, negation, conjunction, disjunction, postfix, names, height}
use Rattle.validity.proofs.Bools.{both, join}

-- An expression adds one value to the stack.

module _ (signals : ℕ) where
  pushes : (h : ℕ) → h < 8 → pushed h ≡ Ok (suc h)
  pushes h l = ap (λ t. cond t (Ok (suc h)) (Err TooManyStacked)) (lt-ltb h 8 l)

  -- of two operands one value is left
  joins : (h : ℕ) → operated 2 (suc (suc h)) (pred (suc (suc h))) ≡ Ok (suc h)
  joins h = ap (λ t. cond t (Err MissingOperand) (Ok (suc h))) (le-ltb (suc (suc h)) 2 (omega arith))

  turns : (h : ℕ) → operated 1 (suc h) (suc h) ≡ Ok (suc h)
  turns h = ap (λ t. cond t (Err MissingOperand) (Ok (suc h))) (le-ltb (suc h) 1 (omega arith))

  named : (n h : ℕ) → names signals (present n) ≡ true → h < 8 → stacked signals n h ≡ Ok (suc h)
  named n h k l =
      let r = both (ltb n 128) (ltb n signals) k in
      rw (r.0, r.1) (pushes h l)

  run : (e : Expression) (rest : List ℕ) (h : ℕ) → names signals e ≡ true → h + height e ≤ 8 → postfix_fault signals (postfix e ++ rest) h ≡ postfix_fault signals rest (suc h)
  run (present n) rest h k l = ap (λ r. onwards r (postfix_fault signals rest)) (named n h k (omega arith))
  run always rest h k l = ap (λ r. onwards r (postfix_fault signals rest)) (pushes h (omega arith))
  run (negation a) rest h k l =
      ap (λ b. postfix_fault signals b h) (append_assoc (postfix a) (130 ∷ []) rest) ∙ run a (130 ∷ rest) h k l ∙ ap (λ r. onwards r (postfix_fault signals rest)) (turns h)
  run (conjunction a b) rest h k l =
      let r = both (names signals a) (names signals b) k in
      ap (λ x. postfix_fault signals x h) (append_assoc (postfix a) (postfix b ++ (128 ∷ [])) rest) ∙ run a ((postfix b ++ (128 ∷ [])) ++ rest) h r.0 (omega arith)
      ∙ ap (λ x. postfix_fault signals x (suc h)) (append_assoc (postfix b) (128 ∷ []) rest) ∙ run b (128 ∷ rest) (suc h) r.1 (omega arith)
      ∙ ap (λ r. onwards r (postfix_fault signals rest)) (joins h)
  run (disjunction a b) rest h k l =
      let r = both (names signals a) (names signals b) k in
      ap (λ x. postfix_fault signals x h) (append_assoc (postfix a) (postfix b ++ (129 ∷ [])) rest) ∙ run a ((postfix b ++ (129 ∷ [])) ++ rest) h r.0 (omega arith)
      ∙ ap (λ x. postfix_fault signals x (suc h)) (append_assoc (postfix b) (129 ∷ []) rest) ∙ run b (129 ∷ rest) (suc h) r.1 (omega arith)
      ∙ ap (λ r. onwards r (postfix_fault signals rest)) (joins h)

  pub evaluates : (e : Expression) → names signals e ≡ true → height e ≤ 8 → postfix_fault signals (postfix e) 0 ≡ None
  evaluates e k l = ap (λ b. postfix_fault signals b 0) (sym (append-nil (postfix e))) ∙ run e [] 0 k (omega arith)

  -- Bytes without fault build an expression, from a stack of those that are complete, the latest first.

  -- the bytes that the stack is written in
  abbrev text : List Expression → List ℕ
  text [] = []
  text (e ∷ es) = text es ++ postfix e

  -- each names signals of the chart, and fits above those below it
  abbrev Fits : List Expression → Type 0
  Fits [] = Unit {0}
  Fits (e ∷ es) = (names signals e ≡ true) × (length es + height e ≤ 8) × Fits es

  record Built (p : List ℕ) : Type 0 where
    whole : Expression
    written : postfix whole ≡ p
    known : names signals whole ≡ true
    low : height whole ≤ 8

  -- a byte is an operand, an operator, or neither
  data Byte : ℕ → Type 0 where
    signal : {n : ℕ} → n < 128 → Byte n
    and_sign : Byte 128
    or_sign : Byte 129
    not_sign : Byte 130
    yes_sign : Byte 131
    other : {n : ℕ} → 131 < n → Byte n

  byte : (n : ℕ) → Byte n
  byte n =
      elim (order n 128) [
        | inl l ↦ signal l
        | inr l ↦ elim (order 131 n) [ inl m ↦ other m | inr m ↦ few n l m ]
      ]
    where
      few : (n : ℕ) → 128 ≤ n → n ≤ 131 → Byte n
      few n l m =
          elim (order n 129) [
            | inl k ↦ subst Byte (let e : 128 ≡ n = omega arith in e) and_sign
            | inr k ↦ elim (order n 130) [
              | inl j ↦ subst Byte (let e : 129 ≡ n = omega arith in e) or_sign
              | inr j ↦ elim (order n 131) [
                | inl i ↦ subst Byte (let e : 130 ≡ n = omega arith in e) not_sign
                | inr i ↦ subst Byte (let e : 131 ≡ n = omega arith in e) yes_sign
              ]
            ]
          ]

  never : {A : Type 0} (f : Fault) → Some f ≡ None → A
  never f e = absurd (let z : ◌≡◌ {A = ℕ} 0 1 = cc in omega arith)

  unknown : (n h : ℕ) → 131 < n → stacked signals n h ≡ Err UnknownOperator
  unknown n h l = rw (le-ltb n 128 (omega arith), ne_eqb n 128 (λ e. omega arith), ne_eqb n 129 (λ e. omega arith), ne_eqb n 130 (λ e. omega arith), ne_eqb n 131 (λ e. omega arith))

  -- what a push that went well says
  push_none : (h : ℕ) (rest : ℕ → Option Fault) → onwards (pushed h) rest ≡ None → (h < 8) × (rest (suc h) ≡ None)
  push_none h rest e = go (ltb h 8) refl e
    where
      go : (t : Bool) → ltb h 8 ≡ t → onwards (cond t (Ok (suc h)) (Err TooManyStacked)) rest ≡ None → (h < 8) × (rest (suc h) ≡ None)
      go true l e = (ltb-true h 8 l, e)
      go false l e = never TooManyStacked e

  known_none : (n h : ℕ) (rest : ℕ → Option Fault) → n < 128 → onwards (stacked signals n h) rest ≡ None → (n < signals) × (onwards (pushed h) rest ≡ None)
  known_none n h rest l e = go (ltb n signals) refl (rw (lt-ltb n 128 l) at e)
    where
      go : (t : Bool) → ltb n signals ≡ t → onwards (cond t (pushed h) (Err UnknownOperator)) rest ≡ None → (n < signals) × (onwards (pushed h) rest ≡ None)
      go true k e = (ltb-true n signals k, e)
      go false k e = never UnknownOperator e

  -- what is built of a longer stack is built of the bytes too
  moved : (es : List Expression) (x : Expression) (front behind : List ℕ) → (text es ++ postfix x) ++ behind ≡ front → Built (text (x ∷ es) ++ behind) → Built front
  moved es x front behind e b = subst Built e b

  step : (n : ℕ) → Byte n → (bs : List ℕ) (es : List Expression) → Fits es → postfix_fault signals (n ∷ bs) (length es) ≡ None
      → ((fs : List Expression) → Fits fs → postfix_fault signals bs (length fs) ≡ None → Built (text fs ++ bs)) → Built (text es ++ (n ∷ bs))
  step n (signal l) bs es f e ih =
      let known = known_none n (length es) (postfix_fault signals bs) l e in
      let room = push_none (length es) (postfix_fault signals bs) known.1 in
      moved es (present n) _ bs (append_assoc (text es) (n ∷ []) bs)
      (ih (present n ∷ es) (join (ltb n 128) (ltb n signals) (lt-ltb n 128 l) (lt-ltb n signals known.0), omega (arith, room.0), f) room.1)
  step n yes_sign bs es f e ih =
      let room = push_none (length es) (postfix_fault signals bs) e in
      moved es always _ bs (append_assoc (text es) (131 ∷ []) bs) (ih (always ∷ es) (refl, omega (arith, room.0), f) room.1)
  step n not_sign bs [] f e ih = never MissingOperand e
  step n not_sign bs (a ∷ es) f e ih =
      moved es (negation a) _ bs (simp append_assoc) (ih (negation a ∷ es) (f.0, f.1, f.2) (sym (ap (λ r. onwards r (postfix_fault signals bs)) (turns (length es))) ∙ e))
  step n and_sign bs [] f e ih = never MissingOperand e
  step n and_sign bs (a ∷ []) f e ih = never MissingOperand e
  step n and_sign bs (b ∷ (a ∷ es)) f e ih =
      moved es (conjunction a b) _ bs (simp append_assoc)
      (ih (conjunction a b ∷ es) (join (names signals a) (names signals b) f.2.0 f.0, omega (arith, f.1, f.2.1), f.2.2) (sym (ap (λ r. onwards r (postfix_fault signals bs)) (joins (length es))) ∙ e))
  step n or_sign bs [] f e ih = never MissingOperand e
  step n or_sign bs (a ∷ []) f e ih = never MissingOperand e
  step n or_sign bs (b ∷ (a ∷ es)) f e ih =
      moved es (disjunction a b) _ bs (simp append_assoc)
      (ih (disjunction a b ∷ es) (join (names signals a) (names signals b) f.2.0 f.0, omega (arith, f.1, f.2.1), f.2.2) (sym (ap (λ r. onwards r (postfix_fault signals bs)) (joins (length es))) ∙ e))
  step n (other l) bs es f e ih = never UnknownOperator (sym (ap (λ r. onwards r (postfix_fault signals bs)) (unknown n (length es) l)) ∙ e)

  build : (bs : List ℕ) (es : List Expression) → Fits es → postfix_fault signals bs (length es) ≡ None → Built (text es ++ bs)
  build [] [] f e = never NotOneValue e
  build [] (x ∷ []) f e = record { whole = x; written = sym (append-nil (postfix x)); known = f.0; low = omega (arith, f.1) }
  build [] (x ∷ (y ∷ es)) f e = never NotOneValue (sym (ap (λ t. cond t None (Some NotOneValue)) (ne_eqb (suc (suc (length es))) 1 (λ z. omega arith))) ∙ e)
  build (b ∷ bs) es f e = step b (byte b) bs es f e (build bs)

pub triggers_evaluate : (signals : ℕ) (p : List ℕ)
    → (postfix_fault signals p 0 ≡ None) ↔ ((e : Expression) × (postfix e ≡ p) × (names signals e ≡ true) × (height e ≤ 8))
triggers_evaluate signals p = (
  λ h. let b = build signals p [] tt h in (b.whole, b.written, b.known, b.low),
  λ r. ap (λ q. postfix_fault signals q 0) (sym r.1) ∙ evaluates signals r.0 r.2 r.3,
)
