-- Drafts: nodes given one by one, children first, and what is wrong with one node more.
use Rattle.std.specs.Prelude.{◌≡◌, ℕ, ◌+◌, ◌<◌, Bool, false, cond, ◌&&◌, ◌||◌, List, [], ◌∷◌, ◌++◌, length, Some, None, Ok, Err, Option, Result, ◌==◌, nat_lt}
use Rattle.rows.specs.Rows.{items}
use Rattle.nodes.specs.declared.node.Node.{Node}
use Rattle.nodes.specs.declared.node_chart.NodeChart.{NodeChart}
use Rattle.nodes.specs.declared.draft.Draft.{Draft}
use Rattle.nodes.specs.declared.drafting.NodeFlaw.{NodeFlaw}
use Rattle.nodes.specs.declared.drafting.NodeFlaw.TheVariants.{Misplaced, Repeated, NoRoom}
use Rattle.nodes.specs.declared.drafting.Unnamed.{Unnamed}
use Rattle.nodes.specs.Diagrams.{mean, level}
use Rattle.nodes.specs.NodeCharts.{node_function}

-- may n be a child of a node with the variable v that comes after the nodes xs? it is there, and has a greater variable
abbrev pub below : ℕ → List Node → ℕ → ℕ → Bool
below m xs v n = nat_lt n (length xs + 2) && nat_lt v (level m xs n)

-- does y, after the nodes xs, have one of m variables and such children?
abbrev pub in_place : ℕ → List Node → Node → Bool
in_place m xs y = nat_lt y.var m && (below m xs y.var y.low && below m xs y.var y.high)

-- are two nodes the same?
abbrev pub same_node : Node → Node → Bool
same_node x y = x.var == y.var && (x.low == y.low && x.high == y.high)

-- is y one of the nodes xs?
abbrev pub among : Node → List Node → Bool
among y [] = false
among y (x ∷ xs) = same_node x y || among y xs

-- what a node is after others
pub data Verdict : Type 0 where
  fits : Verdict
  misplaced : Verdict
  repeated : Verdict

-- what y is after the nodes xs of m variables: misplaced first, then with equal children or a repeat of an earlier one
abbrev pub verdict : ℕ → List Node → Node → Verdict
verdict m xs y = cond (in_place m xs y) (cond (y.low == y.high || among y xs) repeated fits) misplaced

-- does one of the nodes have the child n?
abbrev pub names : ℕ → List Node → Bool
names n [] = false
names n (x ∷ xs) = (x.low == n || x.high == n) || names n xs

-- the smallest node that is not the last and that no later one names, where the nodes count from n
abbrev pub unnamed : ℕ → List Node → Option ℕ
unnamed n [] = None
unnamed n (x ∷ []) = None
unnamed n (x ∷ y ∷ ys) = cond (names n (y ∷ ys)) (unnamed (n + 1) (y ∷ ys)) (Some n)

-- the number of the last node, or of an end where there is none
abbrev pub top : List Node → Bool → ℕ
top [] one = cond one 1 0
top (x ∷ xs) one = length (x ∷ xs) + 1

-- the nodes of a draft
abbrev pub drafted : Draft → List Node
drafted d = items d.store.nodes

-- the nodes of a chart
abbrev pub chart_nodes : NodeChart → List Node
chart_nodes s = items s.nodes

-- a call that adds the node y to the nodes xs of m variables, which are ys after it
abbrev pub Added : ℕ → List Node → List Node → Node → Result (Unit {0}) NodeFlaw → Type 0
Added m xs ys y (Ok u) = (verdict m xs y ≡ fits) × (length xs < 1024) × (ys ≡ xs ++ (y ∷ []))
Added m xs ys y (Err Misplaced) = (verdict m xs y ≡ misplaced) × (ys ≡ xs)
Added m xs ys y (Err Repeated) = (verdict m xs y ≡ repeated) × (ys ≡ xs)
Added m xs ys y (Err NoRoom) = (verdict m xs y ≡ fits) × (length xs ≡ 1024) × (ys ≡ xs)

-- the chart s has the nodes xs of m variables and the root r, and means what they mean
pub record Charts (m : ℕ) (xs : List Node) (r : ℕ) (s : NodeChart) : Type 0 where
  pub arity : s.arity ≡ m
  pub nodes : chart_nodes s ≡ xs
  pub root : s.root ≡ r
  pub means : node_function s ≡ mean xs m 0 r

-- a call that makes the chart of the nodes xs of m variables, the constant `one` where there is none
abbrev pub Finished : ℕ → List Node → Bool → Result NodeChart Unnamed → Type 0
Finished m xs one (Ok s) = (unnamed 2 xs ≡ None) × Charts m xs (top xs one) s
Finished m xs one (Err e) = unnamed 2 xs ≡ Some e.node
