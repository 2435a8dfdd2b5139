-- Lines that are no frame: what they are answered, and that every line longer than any frame's is one. Assumes nothing.
use mathlib.Core.Bool.{Bool, true, cond, ◌&&◌, false≢true, and-eq-true_iff}
use mathlib.Core.List.{List, [], ◌∷◌}
use mathlib.Core.Path.{◌≡◌, refl, ap}
use Prim.Native.Nat.{ℕ, ◌*◌, ◌≤◌, ◌<◌}
use native.Mathlib.Omega.{arith}
use borrow.Author.Tests.{ltb-true, ltb-false, ne_eqb}
use lib.Dec.{ltb}
use lib.ListN.{length, get_or, get_or-eq_default}
use Rattle.std.specs.Prelude.{Option, None}
use Rattle.rules.specs.declared.call.Call.{Call}
use Rattle.records.proofs.Cases.{split, by_if}
use Rattle.records.specs.Lists.{every_below}
use Rattle.rules.proofs.Says.{at_most, below}
use Rattle.frames.specs.Frame.{argument_widths, arguments_length, calls_in, frame_call}
use Rattle.frames.specs.Bytes.{total}
use Rattle.rules.specs.State.{State}
use Rattle.frames.specs.Hex.{is_digit, is_hex, from_hex, to_hex}
use Rattle.frames.specs.Lines.{newline, line_call, said, said_to, line_text}
use Rattle.frames.specs.Stream.{longest_line}

-- no call has more arguments than create
arguments_short : (call : ℕ) → arguments_length call ≤ 29
unfolding every_below
arguments_short call =
    split (λ (_ : Bool). arguments_length call ≤ 29) (ltb call 17)
    (λ known. (below {P = λ (k : ℕ). arguments_length k ≤ 29} (λ (k : ℕ). at_most)).0 refl call (ltb-true call 17 known))
    (λ past. let none = ap total (get_or-eq_default argument_widths [] (ltb-false call 17 past)) in omega (arith, none))

-- a frame of more than 30 bytes
pub long-frame : (frame : List ℕ) → 30 < length frame → frame_call frame ≡ None
unfolding frame_call
long-frame [] long = refl
long-frame (call ∷ arguments) long =
    ap (λ (b : Bool). cond b (get_or (calls_in (call ∷ arguments)) call None) None)
    (ne_eqb (length arguments) (arguments_length call) (λ e. omega (arith, e, long, arguments_short call)))

-- two digits a byte
length_digits : (line : List ℕ) → is_hex line ≡ true → length line ≡ 2 * length (from_hex line)
unfolding is_hex from_hex
length_digits [] hex = refl
length_digits (d ∷ []) hex = absurd (false≢true hex)
length_digits (d ∷ e ∷ digits) hex = omega (arith, length_digits digits ((and-eq-true_iff (is_digit d && is_digit e) _).0 hex).1)

pub long-line : (line : List ℕ) → longest_line < length line → line_call line ≡ None
unfolding line_call
long-line line long =
    by_if (λ (o : Option Call). o ≡ None) (is_hex line)
    (λ hex. long-frame (from_hex line) (omega (arith, length_digits line hex)))
    (λ _. refl)

-- "09ffff": the refusal and no pick, and the state as it was
pub refused-line : (line : List ℕ) (s : State) → line_call line ≡ None
    → ((said_to line s).state ≡ s) × (line_text (said_to line s).bytes ≡ 48 ∷ 57 ∷ 102 ∷ 102 ∷ 102 ∷ 102 ∷ newline ∷ [])
unfolding said_to line_text to_hex
refused-line line s e = (ap (λ (c : Option Call). (said c s).state) e, ap (λ (c : Option Call). line_text (said c s).bytes) e)
