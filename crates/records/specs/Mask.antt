-- Core masks, from document 01's sections "Task record, queues, holders" (all ones, bit N), "Call frames" (modulo 64) and "Waiting and
-- waking" (mask 0).
use Rattle.std.specs.Prelude.{ℕ, ◌-◌, ◌/◌, ◌%◌, ◌^◌, Bool, cond, eqb}

-- "mask all ones"
abbrev pub all_cores : ℕ
all_cores = 2 ^ 64 - 1

-- "bit N permits core N", the core "taken modulo 64"
abbrev pub permits : ℕ → ℕ → Bool
permits mask core = eqb (mask / 2 ^ (core % 64) % 2) 1

-- "mask 0 is stored as all ones"
abbrev pub stored_mask : ℕ → ℕ
stored_mask mask = cond (eqb mask 0) all_cores mask
