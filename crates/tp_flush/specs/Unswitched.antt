-- Why the store didn't switch to its other area.
use Rattle.std.specs.Prelude.{◌≡◌, ◌<◌, ◌≤◌, ◌+◌, ℕ, Bool, true, false, List, length, Option, Some, None, is_some, Result, Ok, Err}
use Rattle.tp_flush.specs.Lower.{NUMBER_LIMIT, NodeState, MarkedNetwork, Topology, whole, none_kept}
use Rattle.tp_flush.specs.declared.fault.FlushFault.{FlushFault}
use Rattle.tp_flush.specs.declared.imaged.Images.{Images}
use Rattle.tp_flush.specs.declared.imaged.Images.TheVariants.{NoSnapshot}
use Rattle.tp_flush.specs.declared.progress.Progress.{Progress}
use Rattle.tp_flush.specs.declared.steps.switching.Switch.{Switch}
use Rattle.tp_flush.specs.declared.unswitched.Unswitched.{Unswitched}
use Rattle.tp_flush.specs.declared.unswitched.Unswitched.TheVariants.{ImageMissing, LastGeneration, CutOpen, PagesKept}
use Rattle.tp_flush.specs.Progress.{is_out}
use Rattle.tp_flush.specs.Flushing.{Flushing}

-- `why` is a reason not to switch. `t` is the device's topology, `p` the images that are out, and `generation` that of the open area. `net`
-- and `frozen` are the book and the nodes with kept pages, as the flusher was told of them last.
abbrev pub IsReason : Unswitched → Topology → Progress → ℕ → MarkedNetwork NodeState → List Bool → Type 0
IsReason ImageMissing t p generation net frozen = (i : ℕ) × (i < length t.pages) × (is_out p i ≡ false)
IsReason LastGeneration t p generation net frozen = NUMBER_LIMIT ≤ generation + 1
IsReason CutOpen t p generation net frozen = is_some (whole net) ≡ false
IsReason PagesKept t p generation net frozen = (is_some (whole net) ≡ true) × (none_kept frozen ≡ false)

-- If a turn didn't switch, no snapshot ran, or there is a reason.
abbrev pub WhyUnswitched : Option Unswitched → Images → Flushing → Type 0
WhyUnswitched None images v = images ≡ NoSnapshot
WhyUnswitched (Some why) images v = IsReason why v.topology v.progress v.place.generation v.world.net v.frozen

-- whether the store switched, without the reason
abbrev pub done_of : Result Switch FlushFault → Result Bool FlushFault
done_of (Ok s) = Ok s.done
done_of (Err fault) = Err fault
