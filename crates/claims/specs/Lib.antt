-- What is claimed of lists of calls: the sentences of the demands, as records with named fields.
--
--   History     histories of calls, and demands 2 and 3 at every point of each
--   Demand3     demand 3, whole: from new and from an accepted image
--   Requests    requests as the calls of a history
--   TextClaim   text fed to a stream, and demand 3 for lines of text
--   HostClaim   demand 3 for a host that calls again and again on one image
pub mod History
pub mod Demand3
pub mod Requests
pub mod TextClaim
pub mod HostClaim
