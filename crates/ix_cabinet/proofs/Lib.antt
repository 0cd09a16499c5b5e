pub mod AreaHoldsUnits
pub mod HeldAfterAChange
pub mod NamesRise
pub mod OneUnitMore
pub mod Publications
pub mod StampsByName
pub mod WhatAListSays
pub mod WhichNamesChanged
