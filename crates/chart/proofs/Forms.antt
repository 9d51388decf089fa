-- One field to bytes and back.
use Rattle.std.proofs.Common.{◌≡◌, ℕ, zero, suc, ◌+◌, ◌*◌, ◌<◌, ◌≤◌, Bool, true, false, ◌&&◌, eqb, List, [], ◌∷◌, length, get_or, Some, None, Ok, Option, Result, sym, refl, ap, ◌∙◌, subst, ap₂, arith, ne_eqb, eqb-true}
use Rattle.chart.specs.declared.kinds.Tag.{Tag}
use Rattle.chart.specs.declared.kinds.Tag.TheVariants.{Signal, State, Graph, Transition, Suspension, Trigger, Effects}
use Rattle.chart.specs.declared.kinds.SignalKind.{SignalKind}
use Rattle.chart.specs.declared.kinds.SignalKind.TheVariants.{Input, Output, Internal}
use Rattle.chart.specs.declared.kinds.StateKind.{StateKind}
use Rattle.chart.specs.declared.kinds.StateKind.TheVariants.{Simple, Final, Macro}
use Rattle.chart.specs.declared.kinds.TransitionKind.TheVariants.{Strong, Weak, Normal}
use Rattle.chart.specs.declared.refusals.Part.{Part}
use Rattle.chart.specs.declared.refusals.Part.TheVariants.{Length, Kind, Flag, Name}
use Rattle.chart.specs.Kinds.{tag_code, tag_from, signal_kind_code, state_kind_code, transition_kind_code, flag_code, one_of_three, signal_kind_from, state_kind_from, transition_kind_from, flag_from}
use Rattle.chart.specs.Fields.{Field, signal, state, graph, transition, suspension, trigger, effects, tag_of, word, contents}
use Rattle.chart.specs.WellFormed.{every, between, is_name, is_word, is_byte, well_formed}
use Rattle.chart.specs.Decoding.{provided, given, word_at, word_in, named, named_state, decode}
use Rattle.chart.specs.Laws.{Written}
use Rattle.chart.proofs.Bools.{both, join}
use Rattle.chart.proofs.Results.{some_same, none_some, ok_same, err_ok}
use Rattle.chart.proofs.Bytes.{byte_first, byte_rest, byte_at, halves, word_back, word_short}

-- Codes.

pub tag_back : (t : Tag) → tag_from (tag_code t) ≡ Some t
tag_back Signal = refl
tag_back State = refl
tag_back Graph = refl
tag_back Transition = refl
tag_back Suspension = refl
tag_back Trigger = refl
tag_back Effects = refl

-- From a well-formed field.

name_long : (name : List ℕ) → is_name name ≡ true → between 1 16 (length name) ≡ true
name_long name h = (both (between 1 16 (length name)) _ (both (between 1 16 (length name) && every _ name) _ h).0).0

signal_kind_back : (k : SignalKind) → signal_kind_from (signal_kind_code k) ≡ Some k
signal_kind_back Input = refl
signal_kind_back Output = refl
signal_kind_back Internal = refl

state_kind_back : (k : StateKind) → state_kind_from (state_kind_code k) ≡ Some k
state_kind_back Simple = refl
state_kind_back Final = refl
state_kind_back Macro = refl

-- a kind and a name behind it
named_lem : {K : Type 0} (from : ℕ → Option K) (make : K → Field) (code : ℕ) (k : K) (name : List ℕ) → from code ≡ Some k → is_name name ≡ true → named from make code name ≡ Ok (make k)
named_lem from make code k name e h =
    ap₂ (λ l n. provided l Length (given (from code) Kind (λ k. provided n Name (Ok (make k))))) (name_long name h) h ∙ ap (λ o. given o Kind (λ k. Ok (make k))) e

-- the contents of a well-formed field are read as that field
pub decoded : (f : Field) → well_formed f ≡ true → decode (tag_of f) (contents f) ≡ Ok f
decoded (signal k name) h = named_lem signal_kind_from (λ k. signal k name) (signal_kind_code k) k name (signal_kind_back k) h
decoded (state g k name) h =
    ap (λ n. named_state n (state_kind_code k) name) (halves g) ∙ named_lem state_kind_from (λ k. state g k name) (state_kind_code k) k name (state_kind_back k) (both (is_word g) (is_name name) h).1
decoded (graph o) h = ap (λ n. Ok (graph n)) (halves o)
decoded (transition s t Strong true) h = ap₂ (λ m n. Ok (transition m n Strong true)) (halves s) (halves t)
decoded (transition s t Strong false) h = ap₂ (λ m n. Ok (transition m n Strong false)) (halves s) (halves t)
decoded (transition s t Weak true) h = ap₂ (λ m n. Ok (transition m n Weak true)) (halves s) (halves t)
decoded (transition s t Weak false) h = ap₂ (λ m n. Ok (transition m n Weak false)) (halves s) (halves t)
decoded (transition s t Normal true) h = ap₂ (λ m n. Ok (transition m n Normal true)) (halves s) (halves t)
decoded (transition s t Normal false) h = ap₂ (λ m n. Ok (transition m n Normal false)) (halves s) (halves t)
decoded (suspension s) h = ap (λ n. Ok (suspension n)) (halves s)
decoded (trigger p) h = ap (λ b. provided b Length (Ok (trigger p))) (both (between 1 32 (length p)) (every is_byte p) h).0
decoded (effects e) h = ap (λ b. provided b Length (Ok (effects e))) (both (between 1 16 (length e)) (every is_byte e) h).0

-- From contents that are read as a field.

-- a test that was passed, and what came then
provided_ok : (b : Bool) (p : Part) (r : _) (f : Field) → provided b p r ≡ Ok f → (b ≡ true) × (r ≡ Ok f)
provided_ok true p r f e = (refl, e)
provided_ok false p r f e = ((cc), (cc))

given_ok : {A : Type 0} (o : Option A) (p : Part) (k : A → _) (f : Field) → given o p k ≡ Ok f → (a : A) × (o ≡ Some a) × (k a ≡ Ok f)
given_ok None p k f e = err_ok p f e
given_ok (Some a) p k f e = (a, refl, e)

named_ok : {K : Type 0} (from : ℕ → Option K) (make : K → Field) (code : ℕ) (name : List ℕ) (f : Field) → named from make code name ≡ Ok f → (k : K) × (from code ≡ Some k) × (is_name name ≡ true) × (make k ≡ f)
named_ok {K = K} from make code name f e =
    let onward : K → Result Field Part = λ k. provided (is_name name) Name (Ok (make k)) in
    let long = provided_ok (between 1 16 (length name)) Length (given (from code) Kind onward) f e in
    let kind = given_ok (from code) Kind onward f long.1 in
    let right = provided_ok (is_name name) Name (Ok (make kind.0)) f kind.2 in
    (kind.0, kind.1, right.0, ok_same (make kind.0) f right.1)

none_of_three : {A : Type 0} (a b c : A) (n : ℕ) → 3 ≤ n → one_of_three a b c n ≡ None
none_of_three a b c n l = rw (ne_eqb n 0 (λ e. omega arith), ne_eqb n 1 (λ e. omega arith), ne_eqb n 2 (λ e. omega arith))

one_of_three_lem : {A : Type 0} (code : A → ℕ) (a b c : A) → code a ≡ 0 → code b ≡ 1 → code c ≡ 2 → (n : ℕ) (k : A) → one_of_three a b c n ≡ Some k → code k ≡ n
one_of_three_lem code a b c p q r zero k e = ap code (sym (some_same a k e)) ∙ p
one_of_three_lem code a b c p q r (suc zero) k e = ap code (sym (some_same b k e)) ∙ q
one_of_three_lem code a b c p q r (suc (suc zero)) k e = ap code (sym (some_same c k e)) ∙ r
one_of_three_lem code a b c p q r (suc (suc (suc n))) k e = none_some k (sym (none_of_three a b c (suc (suc (suc n))) (omega arith)) ∙ e)

no_flag : (n : ℕ) → 2 ≤ n → flag_from n ≡ None
no_flag n l = rw (ne_eqb n 0 (λ e. omega arith), ne_eqb n 1 (λ e. omega arith))

flag_back : (n : ℕ) (b : Bool) → flag_from n ≡ Some b → flag_code b ≡ n
flag_back zero b e = ap flag_code (sym (some_same false b e))
flag_back (suc zero) b e = ap flag_code (sym (some_same true b e))
flag_back (suc (suc n)) b e = none_some b (sym (no_flag (suc (suc n)) (omega arith)) ∙ e)

signal_written : (c : List ℕ) (f : Field) → decode Signal c ≡ Ok f → Written Signal c f
signal_written [] f e = err_ok Length f e
signal_written (k ∷ name) f e =
    let kind = named_ok signal_kind_from (λ k. signal k name) k name f e in
    subst (Written Signal (k ∷ name)) kind.3 (record {
      tag = refl;
      bytes = ap (λ n. n ∷ name) (one_of_three_lem signal_kind_code Input Output Internal refl refl refl k kind.0 kind.1);
      formed = kind.2;
    })

state_written : (c : List ℕ) (f : Field) → every is_byte c ≡ true → decode State c ≡ Ok f → Written State c f
state_written [] f h e = err_ok Length f e
state_written (a ∷ []) f h e = err_ok Length f e
state_written (a ∷ (b ∷ [])) f h e = err_ok Length f e
state_written (a ∷ (b ∷ (k ∷ name))) f h e =
    let g = a * 256 + b in
    let kind = named_ok state_kind_from (λ k. state g k name) k name f e in
    let high = byte_first a (b ∷ (k ∷ name)) h in
    let low = byte_first b (k ∷ name) (byte_rest a (b ∷ (k ∷ name)) h) in
    let back = one_of_three_lem state_kind_code Simple Final Macro refl refl refl k kind.0 kind.1 in
    subst (Written State (a ∷ (b ∷ (k ∷ name)))) kind.3 (record {
      tag = refl;
      bytes = word_back a b (state_kind_code kind.0 ∷ name) high low ∙ ap (λ n. a ∷ (b ∷ (n ∷ name))) back;
      formed = join (is_word g) (is_name name) (word_short a b high low) kind.2;
    })

-- two bytes
OfWord : (ℕ → Field) → Tag → Type 0
OfWord make t = (a b : ℕ) → a < 256 → b < 256 → Written t (a ∷ (b ∷ [])) (make (a * 256 + b))

word_written : (make : ℕ → Field) (t : Tag) → OfWord make t → (c : List ℕ) (f : Field) → every is_byte c ≡ true → given (word_in c) Length (λ n. Ok (make n)) ≡ Ok f → Written t c f
unfolding OfWord
word_written make t w [] f h e = err_ok Length f e
word_written make t w (a ∷ []) f h e = err_ok Length f e
word_written make t w (a ∷ (b ∷ [])) f h e = subst (Written t (a ∷ (b ∷ []))) (ok_same _ f e) (w a b (byte_first a (b ∷ []) h) (byte_first b [] (byte_rest a (b ∷ []) h)))
word_written make t w (a ∷ (b ∷ (x ∷ c))) f h e =
    let none : word_in (a ∷ (b ∷ (x ∷ c))) ≡ None = rw (ne_eqb (length (a ∷ (b ∷ (x ∷ c)))) 2 (λ e. omega arith)) in
    let got = given_ok (word_in (a ∷ (b ∷ (x ∷ c)))) Length (λ n. Ok (make n)) f e in
    none_some got.0 (sym none ∙ got.1)

graph_of_word : OfWord graph Graph
unfolding OfWord
graph_of_word a b p q = record { tag = refl; bytes = word_back a b [] p q; formed = word_short a b p q }

suspension_of_word : OfWord suspension Suspension
unfolding OfWord
suspension_of_word a b p q = record { tag = refl; bytes = word_back a b [] p q; formed = word_short a b p q }

-- six bytes
six : (c : List ℕ) → length c ≡ 6 → c ≡ get_or c 0 0 ∷ (get_or c 1 0 ∷ (get_or c 2 0 ∷ (get_or c 3 0 ∷ (get_or c 4 0 ∷ (get_or c 5 0 ∷ [])))))
six [] h = absurd (omega arith)
six (a ∷ []) h = absurd (omega arith)
six (a ∷ (b ∷ [])) h = absurd (omega arith)
six (a ∷ (b ∷ (c ∷ []))) h = absurd (omega arith)
six (a ∷ (b ∷ (c ∷ (d ∷ [])))) h = absurd (omega arith)
six (a ∷ (b ∷ (c ∷ (d ∷ (e ∷ []))))) h = absurd (omega arith)
six (a ∷ (b ∷ (c ∷ (d ∷ (e ∷ (f ∷ [])))))) h = refl
six (a ∷ (b ∷ (c ∷ (d ∷ (e ∷ (f ∷ (g ∷ r))))))) h = absurd (omega arith)

transition_written : (c : List ℕ) (f : Field) → every is_byte c ≡ true → decode Transition c ≡ Ok f → Written Transition c f
transition_written c f h e =
    let s = word_at c 0 in
    let t = word_at c 2 in
    let k4 = get_or c 4 0 in
    let k5 = get_or c 5 0 in
    let long = provided_ok (eqb (length c) 6) Length (given (transition_kind_from k4) Kind (λ k. given (flag_from k5) Flag (λ i. Ok (transition s t k i)))) f e in
    let kind = given_ok (transition_kind_from k4) Kind (λ k. given (flag_from k5) Flag (λ i. Ok (transition s t k i))) f long.1 in
    let flag = given_ok (flag_from k5) Flag (λ i. Ok (transition s t kind.0 i)) f kind.2 in
    let last = ap₂ (λ x y. x ∷ (y ∷ [])) (one_of_three_lem transition_kind_code Strong Weak Normal refl refl refl k4 kind.0 kind.1) (flag_back k5 flag.0 flag.1) in
    let ends = transition_kind_code kind.0 ∷ (flag_code flag.0 ∷ []) in
    let l0 = byte_at c 0 h in
    let l1 = byte_at c 1 h in
    let l2 = byte_at c 2 h in
    let l3 = byte_at c 3 h in
    subst (Written Transition c) (ok_same _ f flag.2) (record {
      tag = refl;
      bytes =
          word_back (get_or c 0 0) (get_or c 1 0) (word t ends) l0 l1
          ∙ ap (λ r. get_or c 0 0 ∷ (get_or c 1 0 ∷ r)) (word_back (get_or c 2 0) (get_or c 3 0) ends l2 l3 ∙ ap (λ r. get_or c 2 0 ∷ (get_or c 3 0 ∷ r)) last)
          ∙ sym (six c (eqb-true (length c) 6 long.0));
      formed = join (is_word s) (is_word t) (word_short (get_or c 0 0) (get_or c 1 0) l0 l1) (word_short (get_or c 2 0) (get_or c 3 0) l2 l3);
    })

-- bytes that are read as a field are the contents of that field, which is well formed
pub written : (t : Tag) (c : List ℕ) (f : Field) → every is_byte c ≡ true → decode t c ≡ Ok f → Written t c f
written Signal c f h e = signal_written c f e
written State c f h e = state_written c f h e
written Graph c f h e = word_written graph Graph graph_of_word c f h e
written Transition c f h e = transition_written c f h e
written Suspension c f h e = word_written suspension Suspension suspension_of_word c f h e
written Trigger c f h e =
    let r = provided_ok (between 1 32 (length c)) Length (Ok (trigger c)) f e in
    subst (Written Trigger c) (ok_same _ f r.1) (record { tag = refl; bytes = refl; formed = join (between 1 32 (length c)) (every is_byte c) r.0 h })
written Effects c f h e =
    let r = provided_ok (between 1 16 (length c)) Length (Ok (effects c)) f e in
    subst (Written Effects c) (ok_same _ f r.1) (record { tag = refl; bytes = refl; formed = join (between 1 16 (length c)) (every is_byte c) r.0 h })
