-- Rows with the steps along edges.
use Rattle.std.proofs.Common.{◌≡◌, ℕ, suc, ◌+◌, ◌<◌, false, ◌&&◌, ◌||◌, ltb, List, get_or, replicate, sym, ap, ◌∙◌, arith}
use Rattle.std.proofs.Math.Bool.{and-false, and-or_distrib_left}
use lib.ListN.{get_or-replicate}
use Rattle.closure.specs.Rows.{in_row, holds, among, empty}
use Rattle.closure.specs.Edges.{edge_step, steps_of, no_edge}
use Rattle.closure.specs.declared.row.Row.{Row}
use Rattle.closure.specs.declared.Edge.{Edge}

-- No edge.

pub none : (e : Row) → ((y : ℕ) → in_row e y ≡ false) → (x y : ℕ) → x < 256 → holds (replicate 256 e) x y ≡ false
none e h x y l = ap (λ r. in_row r y) (get_or-replicate 256 x e empty l) ∙ h y

-- The first edges.

abbrev pub Upto : List Edge → List Row → ℕ → ℕ → Type 0
Upto edges rows n t = (x y : ℕ) → x < 256 → y < 256 → holds rows x y ≡ among n (steps_of edges t) x y

pub begins : (edges : List Edge) (rows : List Row) (n : ℕ) → ((x y : ℕ) → x < 256 → holds rows x y ≡ false) → Upto edges rows n 0
begins edges rows n h x y lx ly = h x y lx ∙ sym (and-false (ltb x n && ltb y n))

pub goes_on : (edges : List Edge) (was rows : List Row) (n t : ℕ) → Upto edges was n t
    → ((x y : ℕ) → x < 256 → y < 256 → holds rows x y ≡ (holds was x y || among n (edge_step (get_or edges t no_edge)) x y)) → Upto edges rows n (t + 1)
goes_on edges was rows n t u a x y lx ly =
    a x y lx ly ∙ ap (λ p. p || among n (edge_step (get_or edges t no_edge)) x y) (u x y lx ly)
    ∙ sym (and-or_distrib_left (ltb x n && ltb y n) (steps_of edges t x y) (edge_step (get_or edges t no_edge) x y))
    ∙ ap (λ m. among n (steps_of edges m) x y) (let q : suc t ≡ t + 1 = omega arith in q)
