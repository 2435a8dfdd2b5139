-- Document 01, "Task record, queues, holders": "Every state reached from new or an accepted image is again accepted, and writing then reading the
-- image gives the same state": for all lists of calls whose numbers fit, as those of frames do. Assumes nothing.
use mathlib.Core.Path.{sym, subst}
use mathlib.Core.List.{List, [], ◌∷◌}
use Prim.Native.Nat.{ℕ}
use Rattle.records.specs.Lists.{Each}
use Rattle.rules.specs.declared.call.Call.{Call}
use Rattle.rules.specs.State.{State, new_state}
use Rattle.rules.specs.Step.{step, run}
use Rattle.scheduler.specs.declared.scheduler.QoSScheduler.{QoSScheduler}
use Rattle.scheduler.specs.declared.scheduler.Reply.{Reply}
use Rattle.scheduler.specs.Scheduler.{abs, Meets}
use Rattle.scheduler.proofs.Arrays.{valid}
use Rattle.frames.specs.AcceptedImage.{AcceptedImage}
use Rattle.frames.specs.Fits.{FitsCall, HasImage}
use Rattle.frames.specs.Image.{state_at, FitsImage}
use Rattle.frames.proofs.AcceptedImages.{has_image}
use Rattle.frames.proofs.StatesFit.{call_has_image, new_has_image, image_has_image, kept-fits}

-- by any calls whose numbers fit, from a state that has an image
pub reached_image : (s : State) (calls : List Call) → HasImage s → Each FitsCall calls → HasImage (run calls s)
unfolding run Each
reached_image s [] has fit = has
reached_image s (call ∷ calls) has fit = reached_image (step call s).state calls (call_has_image call s fit.0 has) fit.1

-- from new
pub new_reached : (calls : List Call) → Each FitsCall calls → HasImage (run calls new_state)
new_reached calls = reached_image new_state calls new_has_image

-- from an accepted image
pub image_reached : (image : List ℕ) (calls : List Call) → AcceptedImage image → Each FitsCall calls → HasImage (run calls (state_at image))
image_reached image calls a = reached_image (state_at image) calls (image_has_image image a)

-- by a call that keeps its contract, whose numbers fit
pub meets-image : (call : Call) (s : QoSScheduler) (r : Reply) → Meets call s r → FitsCall call → FitsImage (abs s) → HasImage (abs r.state)
meets-image call s r m fit f =
    has_image (abs r.state) (valid r.state) (subst FitsImage (sym m.state_is) (kept-fits call (abs s) (valid s) fit f))
