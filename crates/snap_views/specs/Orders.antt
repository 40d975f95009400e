-- What the quick test says of the completed views.
use Rattle.std.specs.Prelude.{⊤, Option, Some, None}
use Rattle.snap_views.specs.declared.view_chain.ViewChain.{ViewChain}
use Rattle.snap_views.specs.declared.comparison.ViewOrder.{ViewOrder}
use Rattle.snap_views.specs.declared.comparison.ViewOrder.TheVariants.{Faultless, Comparable, Crossing}

-- the chain of the views, unless two of them cross
abbrev pub chain_of : ViewOrder → Option ViewChain
chain_of (Faultless chain) = Some chain
chain_of (Comparable chain) = Some chain
chain_of Crossing = None

-- the answer is that no two views are a read fault
abbrev pub IsFaultless : ViewOrder → Type 0
IsFaultless (Faultless chain) = ⊤
IsFaultless (Comparable chain) = ⊥
IsFaultless Crossing = ⊥
