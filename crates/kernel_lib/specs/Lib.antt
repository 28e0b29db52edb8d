pub use Rattle.part_factors.specs.declared.bad_pivot.BadPivot
pub use Rattle.part_factors.specs.BadPlaces
pub use Rattle.part_solves.specs.Conditions
