pub mod LeafPass
pub mod StatesBelow
