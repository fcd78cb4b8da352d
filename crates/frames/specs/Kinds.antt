-- The kinds of frames: the first byte of each.
use Rattle.std.specs.Prelude.{◌≡◌, ℕ, cond, List, [], ◌∷◌, Some, None, Ok, Err, Option, Result, ◌==◌, ◌≢◌}
use Rattle.frames.specs.declared.kinds.Kind.{Kind}
use Rattle.frames.specs.declared.kinds.UnknownKind.{UnknownKind}
use Rattle.frames.specs.declared.kinds.Kind.TheVariants.{NodePage, Node, BitPage, Bits, Network, Cell, Job, Swap, Split, Close, Answer, Fault}

-- the byte that a kind's frames begin with
abbrev pub kind_byte : Kind → ℕ
kind_byte NodePage = 0x01
kind_byte Node = 0x02
kind_byte BitPage = 0x03
kind_byte Bits = 0x04
kind_byte Network = 0x11
kind_byte Cell = 0x12
kind_byte Job = 0x20
kind_byte Swap = 0x21
kind_byte Split = 0x22
kind_byte Close = 0x23
kind_byte Answer = 0x31
kind_byte Fault = 0x32

-- every kind
abbrev pub kinds : List Kind
kinds = NodePage ∷ Node ∷ BitPage ∷ Bits ∷ Network ∷ Cell ∷ Job ∷ Swap ∷ Split ∷ Close ∷ Answer ∷ Fault ∷ []

-- the first of these kinds that has this byte
abbrev pub kind_among : List Kind → ℕ → Option Kind
kind_among [] b = None
kind_among (k ∷ ks) b = cond (kind_byte k == b) (Some k) (kind_among ks b)

-- the kind that a byte stands for
abbrev pub kind_of : ℕ → Option Kind
kind_of b = kind_among kinds b

-- the kind that a byte stands for, whose byte it is; or that byte, which is no kind's
abbrev pub KindOf : ℕ → Result Kind UnknownKind → Type 0
KindOf b (Ok k) = (kind_of b ≡ Some k) × (kind_byte k ≡ b)
KindOf b (Err e) = (kind_of b ≡ None) × ((k : Kind) → kind_byte k ≢ b) × (e.0 ≡ b)
