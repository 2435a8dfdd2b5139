-- Demand 3 for a host that calls `step` again and again on one image (`host_demand3`). What one call leaves is Hosts' matter, in frames. Assumes
-- nothing.
use mathlib.Core.Path.{◌≡◌, refl, sym, ap, subst, ◌∙◌}
use mathlib.Core.Bool.{false}
use mathlib.Core.List.{List, [], ◌∷◌, ◌++◌, flat_map}
use Prim.Native.Nat.{ℕ, ◌≤◌}
use borrow.Author.Tests.{ltb-true, ltb-false}
use lib.Dec.{ltb}
use lib.ListN.{length}
use Rattle.std.specs.Prelude.{Option, None, Some}
use Rattle.records.proofs.Cases.{by_if}
use Rattle.rules.specs.declared.call.Call.{Call}
use Rattle.rules.specs.State.{State}
use Rattle.rules.specs.Step.{step, run}
use Rattle.rules.specs.Stretch.{events}
use Rattle.rules.proofs.Stretches.{run_append}
use Rattle.scheduler.specs.declared.scheduler.QoSScheduler.{QoSScheduler}
use Rattle.frames.specs.declared.refusal.HostError.{HostError}
use Rattle.frames.specs.declared.refusal.HostError.TheVariants.{WrongLength, NoFrame}
use Rattle.frames.specs.AcceptedImage.{AcceptedImage}
use Rattle.frames.specs.Bytes.{AllBytes}
use Rattle.frames.specs.Fits.{HasImage}
use Rattle.frames.specs.Frame.{frame_call}
use Rattle.frames.specs.Host.{refusal_returned, answer_room, host_refused, host_answered, host_called, host_step}
use Rattle.frames.specs.Image.{image_of, state_at}
use Rattle.frames.proofs.AcceptedImages.{accepted-state}
use Rattle.frames.proofs.AnswersFit.{pick-told}
use Rattle.frames.proofs.Images.{writes_back}
use Rattle.frames.proofs.StatesFit.{image-fits, image_has_image, frame-image}
use Rattle.frames.proofs.Hosts.{short-step, accepted_step}
use Rattle.claims.specs.Requests.{call_in, calls_among, AskedPoint, Asks}
use Rattle.claims.specs.HostClaim.{HostCall, HostCalls, image_left, refusal_to, by_host, HostClaim}
use Rattle.frames.specs.ReadWrite.{ReadAs}
use Rattle.claims.specs.Demand3.{from_image}
use Rattle.claims.proofs.Demand3.{a_reading}
use Rattle.claims.proofs.Histories.{answers_from}
use Rattle.claims.proofs.Follows.{run-said, Chain, asks}

-- an accepted image that holds a state
record Holding (s : State) (image : List ℕ) : Type 0 where
  accepted : AcceptedImage image
  state_is : state_at image ≡ s

-- one call on an accepted image
module _ (image : List ℕ) (a : AcceptedImage image) (h : HostCall) where
  -- what it is told and leaves, where it asks for these calls
  record After (calls : List Call) : Type 0 where
    says : by_host.Told h (state_at image) (answers_from calls (state_at image))
    image_is : h.got.image ≡ image_of (run calls (state_at image))

  untouched : (e : HostError) → e ≡ refusal_to h → h.got ≡ host_refused e image h.buffer → After []
  unfolding events run
  untouched e which is = record { says = (rw is (ap refusal_returned which), rw is); image_is = rw is (sym (writes_back image a)) }

  answered : (call : Call) → answer_room ≤ length h.buffer → h.got ≡ host_answered (step call (state_at image)) h.buffer → After (call ∷ [])
  unfolding events run
  answered call room is = record {
    says = record {
      returned_is = rw is;
      buffer_is = rw is;
      pick_is = rw is (pick-told call (state_at image) (accepted-state image a) (image-fits image a) h.buffer room);
    };
    image_is = rw is;
  }

  called : (c : Option Call) → ltb (length h.buffer) answer_room ≡ false → h.got ≡ host_called c image h.buffer → After (call_in c)
  called None room is = untouched NoFrame (rw room) is
  called (Some call) room is = answered call (ltb-false (length h.buffer) answer_room room) is

  after : h.got ≡ host_step image h.frame h.buffer → After (by_host.asked h)
  after is =
      by_if After (ltb (length h.buffer) answer_room)
      (λ short. untouched WrongLength (rw short) (is ∙ short-step image h.frame h.buffer (ltb-true (length h.buffer) answer_room short)))
      (λ room. called (frame_call h.frame) room (is ∙ accepted_step image a h.frame h.buffer (ltb-false (length h.buffer) answer_room room)))

  -- the state that it leaves has an image again
  has_image : AllBytes h.frame → HasImage (run (by_host.asked h) (state_at image))
  unfolding run
  has_image bytes =
      by_if (λ (calls : List Call). HasImage (run calls (state_at image))) (ltb (length h.buffer) answer_room)
      (λ _. image_has_image image a)
      (λ _. rw (run-said (frame_call h.frame) (state_at image)) (frame-image h.frame (state_at image) bytes (image_has_image image a)))

  -- which is the image that the next call gets
  next : AllBytes h.frame → h.got ≡ host_step image h.frame h.buffer → Holding (run (by_host.asked h) (state_at image)) h.got.image
  next bytes is = record {
    accepted = rw (after is).image_is (has_image bytes).image_accepted;
    state_is = ap state_at (after is).image_is ∙ (has_image bytes).reads_as;
  }

-- ---- again and again

-- each call is told what the rules say
hosts_chain : (image : List ℕ) → AcceptedImage image → (calls : List HostCall) → HostCalls image calls → Chain by_host (state_at image) calls
unfolding HostCalls Chain
hosts_chain image a [] hc = tt
hosts_chain image a (h ∷ rest) ((bytes, is), hc) =
    let left : Holding (run (by_host.asked h) (state_at image)) h.got.image = next image a h bytes is in
    ((after image a h is).says, rw (← left.state_is) (hosts_chain h.got.image left.accepted rest hc))

-- some of them, from the first on
hosts_cut : (image : List ℕ) (past next : List HostCall) → HostCalls image (past ++ next) → HostCalls image past
unfolding HostCalls
hosts_cut image [] next hc = tt
hosts_cut image (h ∷ past) next (one, hc) = (one, hosts_cut h.got.image past next hc)

-- the image that they leave
leaves : (image : List ℕ) → AcceptedImage image → (past : List HostCall) → HostCalls image past →
    Holding (run (calls_among by_host past) (state_at image)) (image_left image past)
unfolding HostCalls image_left flat_map run
leaves image a [] hc = record { accepted = a; state_is = refl }
leaves image a (h ∷ past) ((bytes, is), hc) =
    let left : Holding (run (by_host.asked h) (state_at image)) h.got.image = next image a h bytes is in
    rw (run_append (by_host.asked h) (calls_among by_host past) (state_at image), ← left.state_is) (leaves h.got.image left.accepted past hc)

pub host_demand3 : (image : List ℕ) → AcceptedImage image → (calls : List HostCall) → HostCalls image calls → HostClaim image calls
host_demand3 image a calls hc =
    let s : (s : QoSScheduler) × ReadAs image s = a_reading image a in
    let whole : Asks by_host (state_at image) s.0 calls = asks by_host (from_image image s.1) calls (hosts_chain image a calls hc) in
    record {
      scheduler = s.0;
      read_as = s.1;
      asks = whole;
      points = λ past next cut.
          let there : Holding (run (calls_among by_host past) (state_at image)) (image_left image past) =
          leaves image a past (hosts_cut image past next (subst (HostCalls image) (sym cut) hc)) in
          let asked : AskedPoint by_host (state_at image) s.0 whole.made past next = whole.points past next cut in
          record {
            image_is = sym (writes_back (image_left image past) there.accepted) ∙ ap image_of there.state_is;
            accepted = there.accepted;
            asked = asked;
            stands_for = there.state_is ∙ sym (asked.point.states ∙ ap (λ (l : List Call). run l (state_at image)) asked.calls_are);
          };
    }
