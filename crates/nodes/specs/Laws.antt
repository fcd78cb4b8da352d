-- The laws of diagrams and of node charts.
use Rattle.std.specs.Prelude.{◌≡◌, ℕ, ◌+◌, ◌-◌, ◌<◌, ◌≤◌, false, List, length}
use Rattle.functions.specs.Functions.{Arity, tree}
use Rattle.rows.specs.Rows.{items}
use Rattle.nodes.specs.declared.node.Node.{Node}
use Rattle.nodes.specs.Diagrams.{node, at, mean, level, Diagram}
use Rattle.nodes.specs.Sizes.{size, Small}
use Rattle.nodes.specs.declared.node_chart.NodeChart.{NodeChart}
use Rattle.nodes.specs.NodeCharts.{has, place_column, node_function}

-- the nodes of ys are those of xs under other numbers: n has the number `to n`
pub record Renumbered (xs ys : List Node) (c root e top : ℕ) : Type 0 where
  pub to : ℕ → ℕ
  pub many : c ≡ e
  pub zero_end : to 0 ≡ 0
  pub one_end : to 1 ≡ 1
  pub root_to : to root ≡ top
  -- a node becomes a node with the same variable and the children under their numbers
  pub inside : (n : ℕ) → 2 ≤ n → n < c + 2 → (2 ≤ to n) × (to n < e + 2)
  pub same : (n : ℕ) → 2 ≤ n → n < c + 2 → at ys (to n) ≡ node (at xs n).var (to (at xs n).low) (to (at xs n).high)
  -- no two get one number, so that each node of ys is one of xs
  pub once : (a b : ℕ) → a < c + 2 → b < c + 2 → to a ≡ to b → a ≡ b

-- the laws of reduced ordered diagrams
pub record DiagramLaws : Type 0 where
  -- numbers that mean the same at a depth are equal
  pub canonical : (m : ℕ) (xs : List Node) (c root : ℕ) → Diagram m xs c root → (d a b : ℕ) → d ≤ m → a < c + 2 → b < c + 2 → d ≤ level m xs a → d ≤ level m xs b →
      mean xs (m - d) d a ≡ mean xs (m - d) d b → a ≡ b
  -- there are as many nodes as the function's size
  pub sized : (m : ℕ) (xs : List Node) (c root : ℕ) → Diagram m xs c root → c ≡ size (mean xs m 0 root)
  -- the root is the last node, or an end where there is none
  pub last : (m : ℕ) (xs : List Node) (c root : ℕ) → Diagram m xs c root → 0 < c → root ≡ c + 1
  -- the diagrams of one function are the same up to numbering
  pub unique : (m : ℕ) (xs ys : List Node) (c root e top : ℕ) → Diagram m xs c root → Diagram m ys e top → mean xs m 0 root ≡ mean ys m 0 top → Renumbered xs ys c root e top

-- the laws of node charts
pub record NodeChartLaws : Type 0 where
  -- a node chart is the reduced ordered diagram of its function
  pub diagram : (s : NodeChart) → Diagram s.arity (items s.nodes) (length (items s.nodes)) s.root
  -- which has the chart's number of arguments
  pub arity : (s : NodeChart) → Arity s.arity (node_function s)
  -- and fits
  pub fits : (s : NodeChart) → Small (node_function s)
  -- a place that is not there at a depth means the zero column
  pub lacking : (s : NodeChart) (d n : ℕ) → has (items s.nodes) (length (items s.nodes)) d n ≡ false → place_column s d n ≡ tree (s.arity - d) (λ i. false)
