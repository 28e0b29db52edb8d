-- A `&` to the right reaches each of its numbers. Assumes `Logic`.
use Rattle.std.proofs.Common.{[], ◌++◌}
use base.Fml.{Incl-trans}
use contract.BorrowLft.{meet_⊑_left}
use denote.Builtin.{u64}
use denote.RattleType.{RattleType}
use denote.Ref.{NamedLft, MutRef}
use denote.Param.Shared.{copy_shared}
use denote.Struct.Laws.{field_copy}
use denote.Struct.Lending.{of_Lends}
use Rattle.std.specs.contracts.marker.PhantomData as marker
use Rattle.matrix_parts.specs.contracts.region.Lent as lent
use Rattle.matrix_parts.proofs.RegionSharing.{shared_in_laws, Lends-region}
use Rattle.matrix_parts.proofs.region.Lent.TheLaw.Statement.{statement}

pub shares : (κ : NamedLft) → statement κ
shares κ =
    let R : RattleType = MutRef κ.mir κ.lft u64 in
    of_Lends (lent.struct κ) (lent.the_codes (marker.the_row R).coded) (lent.the_heap κ.lft) (lent.the_lent κ.lft) (λ d p. shared_in_laws κ.lft d.at d.region d.numbers)
    (copy_shared (marker.the_field R) (field_copy (marker.the_type R) tt), tt)
    (λ M 𝓤 𝓛 d p. Lends-region 𝓛 (lent.the_row κ).lives κ.lft (Incl-trans (meet_⊑_left ((R.lives ++ []) ++ []) []) (Incl-trans (meet_⊑_left (R.lives ++ []) []) (Incl-trans (meet_⊑_left R.lives []) (meet_⊑_left κ.lft [])))) d.loan d.at d.region d.numbers)
