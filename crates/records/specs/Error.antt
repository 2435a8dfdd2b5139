-- Document 01, the table of refusals: "Numbers 1 to 6 are the Rust's `TableFull`, `QueueFull`, `NoSuchTask`, `AlreadyReady`, `AlreadyBlocked` and `NotBlocked`."
use Rattle.std.specs.Prelude.{ℕ}
use Rattle.records.specs.declared.error.SchedError.{SchedError}
use Rattle.records.specs.declared.error.SchedError.TheVariants.{TableFull, QueueFull, NoSuchTask, AlreadyReady, AlreadyBlocked, NotBlocked}

abbrev pub error_code : SchedError → ℕ
error_code TableFull = 1
error_code QueueFull = 2
error_code NoSuchTask = 3
error_code AlreadyReady = 4
error_code AlreadyBlocked = 5
error_code NotBlocked = 6
