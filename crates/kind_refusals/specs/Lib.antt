pub mod TypeRefusals
pub mod OrdinalRefusals
pub mod KindRefusals
