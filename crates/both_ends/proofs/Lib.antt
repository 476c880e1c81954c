-- That U and L are the ends of the shared stretch.
pub mod BothEnds
