pub mod ByModulation
pub mod Laws
pub mod PeriodPlaces
