-- Forty sessions (document 02, W12), the theorems: owners are isolated, call by call and over histories; a refusal changes nothing; opening takes the lowest free number;
-- every session is an endpoint of its own, and stays sound. Last the laws that they stand on.

pub mod View
pub mod OwnersAreIsolated
pub mod HistoriesAreIsolated
pub mod RefusalsChangeNothing
pub mod OpeningTakesTheLowest
pub mod SessionsAreEndpoints
pub mod PlacesStaySound
pub mod HistoriesCanBeMet
pub mod Seeing
pub mod Histories
