-- What rests on the laws of specs/: our singles and passes, and that no rival plan does better.
pub mod OurSingles
pub mod OurPasses
pub mod FewestPasses
pub mod MaximumAtEveryCut
pub mod EarlierFewest
pub mod EarlierJobsPaired
