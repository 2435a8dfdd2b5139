-- The states: their codes are below 4; reading a code gives back the state that has it, and only codes are read; states with one code are one
-- state, and the derived `==` says whether they are.
-- Assumes nothing.
use mathlib.Core.Path.{◌≡◌, refl, sym, ap, ◌∙◌}
use mathlib.Core.Bool.{true}
use Prim.Native.Nat.{ℕ, ◌≤◌, ◌<◌}
use native.Mathlib.Omega.{arith}
use borrow.Author.Rules.{rules}
use borrow.Author.Tests.{eqb-true, eq-eqb}
use denote.Enum.Bare.{sameb}
use lib.ListN.{get_or-eq_default}
use Rattle.records.specs.contracts.state.ThreadState.{the_type}
use Rattle.records.specs.declared.state.ThreadState.{ThreadState}
use Rattle.records.specs.declared.state.ThreadState.TheVariants.{Ready, Running, Blocked, Terminated}
use Rattle.std.specs.Prelude.{Some, None}
use Rattle.records.specs.ThreadState.{state_code, states, coded_state, is_state}

pub state_code-small : (s : ThreadState) → state_code s < 4
state_code-small Ready = omega arith
state_code-small Running = omega arith
state_code-small Blocked = omega arith
state_code-small Terminated = omega arith

pub coded_state_code : (s : ThreadState) → coded_state (state_code s) ≡ Some s
coded_state_code Ready = refl
coded_state_code Running = refl
coded_state_code Blocked = refl
coded_state_code Terminated = refl

pub coded_state-past : (n : ℕ) → 4 ≤ n → coded_state n ≡ None
coded_state-past n h = get_or-eq_default states _ h

pub is_state-same : (s : ThreadState) → is_state s s ≡ true
is_state-same s = eq-eqb (state_code s) (state_code s) refl

pub is_state_true : (s t : ThreadState) → is_state s t ≡ true → s ≡ t
is_state_true s t e =
    let codes : state_code s ≡ state_code t = eqb-true (state_code s) (state_code t) e in
    let same : Some s ≡ Some t = sym (coded_state_code s) ∙ ap coded_state codes ∙ coded_state_code t in
    cc

-- what the derived `==` answers
pub same_state-is : (one other : ThreadState) → sameb the_type one other ≡ is_state one other
same_state-is one other = search rules
