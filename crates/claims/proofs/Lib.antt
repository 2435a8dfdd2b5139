-- The claims, proved from the contracts of the code and the laws of the rules:
--
--   Histories       demands 2 and 3 on the code, calls on a lent state among them; histories append, and every list of calls has one
--   Demand3         demand 3, whole: from new and from an accepted image
--   Follows         requests as the calls of a history
--   Feedings        a text in blocks: nothing is lost, nothing answered twice, however it is cut
--   TextHistories   demand 3 for lines of text
--   HostHistories   demand 3 for a host on one image
--   Reached         every state that calls whose numbers fit reach from new, or from an accepted image, has an image
--   Figures         document 01's numbers, each beside the definition that has it
--   Example         document 01's five lines, computed
pub mod Histories
pub mod Demand3
pub mod Follows
pub mod Feedings
pub mod TextHistories
pub mod HostHistories
pub mod Reached
pub mod Figures
pub mod Example
