-- What a node page is: a heading 01 with its number of arguments, its count of nodes and its root, and a frame 02 for each node.
use Rattle.std.specs.Prelude.{ℕ, zero, suc, ◌+◌, ◌-◌, ◌*◌, Bool, cond, ◌&&◌, List, [], ◌∷◌, ◌++◌, length, Some, None, Option, ◌==◌, nat_le, nat_lt, slice_index}
use Rattle.frames.specs.declared.faults.PageFault.TheVariants.{Unnamed}
use Rattle.frames.specs.declared.faults.RecordFault.TheVariants.{OutOfRange, BadPlace, Repeated}
use Rattle.frames.specs.declared.kinds.Kind.{Kind}
use Rattle.frames.specs.declared.kinds.Kind.TheVariants as kind
use Rattle.frames.specs.Numbers.{numbers}
use Rattle.frames.specs.Outcome.{past, line_after}
use Rattle.frames.specs.Records.{Got, got, gone, bad, due, recorded}
use Rattle.frames.specs.Pages.{Page, page, refused, onward, ended}
use Rattle.functions.specs.Functions.{Fn}
use Rattle.nodes.specs.declared.node.Node.{Node}
use Rattle.nodes.specs.declared.node_chart.NodeChart.{NodeChart}
use Rattle.nodes.specs.Diagrams.{node, mean}
use Rattle.nodes.specs.Drafts.{Verdict, fits, misplaced, repeated, verdict, unnamed, Charts}
use Rattle.nodepages.specs.declared.records.Triple.{Triple}
use Rattle.nodepages.specs.declared.records.Heading.{Heading}

-- the two-byte number at i, its high byte first
abbrev pub word : List ℕ → ℕ → ℕ
word bs i = slice_index bs i * 256 + slice_index bs (i + 1)

-- the fields of a frame of a node page: a byte, and two numbers of two bytes
abbrev pub triple : List ℕ → Triple
triple bs = record { byte = slice_index bs 1; first = word bs 2; second = word bs 4 }

-- the fields of the frame of this kind at the start of a text
abbrev pub fields : Kind → List ℕ → ℕ → Got Triple
fields k xs line = recorded (due k 7 xs line) (λ bs. got (triple bs))

-- a record of these fields
abbrev pub taken : {X Y : Type 0} → Got X → (X → Got Y) → Got Y
taken (got x) give = give x
taken gone give = gone
taken (bad w e) give = bad w e

-- the root of k nodes is the last of them, or an end where there is none
abbrev pub right_root : ℕ → ℕ → Bool
right_root k r = cond (k == 0) (nat_lt r 2) (r == k + 1)

-- a heading in range: 1 to 16 arguments, at most 1,024 nodes, and their root
abbrev pub in_range : Heading → Bool
in_range h = (nat_le 1 h.arity && nat_le h.arity 16) && (nat_le h.count 1024 && right_root h.count h.root)

-- the heading with these fields
abbrev pub heading_of : Triple → Heading
heading_of t = record { arity = t.byte; count = t.first; root = t.second }

-- the heading of these fields, where it is in range
abbrev pub headed : ℕ → Triple → Got Heading
headed line t = cond (in_range (heading_of t)) (got (heading_of t)) (bad (numbers 2 4 line 0) (OutOfRange line))

-- the heading at the start of a text
abbrev pub heading : List ℕ → ℕ → Got Heading
heading xs line = taken (fields kind.NodePage xs line) (headed line)

-- the nodes ys and one more, by what it is after them
abbrev pub joined : ℕ → List Node → Node → Verdict → Got (List Node)
joined line ys y fits = got (ys ++ (y ∷ []))
joined line ys y misplaced = bad (numbers 2 5 line (length ys + 2)) (BadPlace line (length ys + 2))
joined line ys y repeated = bad (numbers 2 6 line (length ys + 2)) (Repeated line (length ys + 2))

-- the node with these fields
abbrev pub node_of : Triple → Node
node_of t = node t.byte t.first t.second

-- the nodes ys of n arguments with that of the frame at the start of a text
abbrev pub next_node : ℕ → List Node → List ℕ → ℕ → Got (List Node)
next_node n ys xs line = taken (fields kind.Node xs line) (λ t. joined line ys (node_of t) (verdict n ys (node_of t)))

-- the nodes ys of n arguments with those of the next k frames
abbrev pub listed : ℕ → ℕ → List Node → List ℕ → ℕ → Page (List Node)
listed n zero ys xs line = page ys xs line
listed n (suc k) ys xs line = onward line (next_node n ys xs line) (λ zs. listed n k zs (past xs) (line_after xs line))

-- what a node page lists: its number of arguments, its nodes and its root
pub record Listing : Type 0 where
  pub arity : ℕ
  pub nodes : List Node
  pub root : ℕ

-- the function that it means
abbrev pub meant : Listing → Fn
meant d = mean d.nodes d.arity 0 d.root

-- the page of these nodes, whose heading stands at the line `first`, by the smallest node, not the last, that no later one names
abbrev pub settled : ℕ → Heading → List Node → List ℕ → ℕ → Option ℕ → Page Listing
settled first h ys xs line None = page (record { arity = h.arity; nodes = ys; root = h.root }) xs line
settled first h ys xs line (Some k) = refused (numbers 3 7 (first + (k - 1)) k) (Unnamed (first + (k - 1)) k)

-- the same of what the nodes read as
abbrev pub named : ℕ → Heading → Page (List Node) → Page Listing
named first h (page ys xs line) = settled first h ys xs line (unnamed 2 ys)
named first h (refused w e) = refused w e

-- the page at the start of a text, whose first line has this number; what follows it is not looked at
abbrev pub paged : List ℕ → ℕ → Page Listing
paged xs line = onward line (heading xs line) (λ h. named line h (listed h.arity h.count [] (past xs) (line_after xs line)))

-- the page that a whole text is
abbrev pub alone : List ℕ → ℕ → Page Listing
alone xs line = ended (paged xs line)

-- the chart s has what the page lists: its arguments, nodes and root, and means its function
abbrev pub Holds : Listing → NodeChart → Type 0
Holds d s = Charts d.arity d.nodes d.root s
