-- What a part that is lent to be written owns: the loan of its numbers. Assumes `Logic`.
use Rattle.std.proofs.Common.{ℕ, ◌^◌, ◌<◌, List, [], ◌∷◌, refl, w32, w64}
use seplogic.Ra.Ura.{Ura}
use mir.Val.{Val, vint, vstruct, vcons, vnil}
use base.Logic.{ent}
use types.Logic.{Logic, sem}
use types.Kit.{‵, ◌$◌, ◌∵◌, !, qed, move, fjoin, fpack, feq_i, done}
use denote.RattleType.{Valss}
use denote.Builtin.{u32, usize, u64}
use denote.Plain.{uint_Makes}
use denote.Ref.{NamedLft}
use denote.Slice.{MutSlice, mut_slice_vals}
use denote.Steps.{nothing, owned}
use denote.Struct.Declared as Declared
use denote.Struct.Struct.{within}
use Rattle.matrix_parts.specs.declared.part_mut.PartMut.{PartMut}
use Rattle.matrix_parts.specs.contracts.part_mut.PartMut.{the_row, the_type}
use Rattle.matrix_parts.proofs.part_mut.PartMut.TheLaws.{lowered}

-- the machine value of a part
abbrev pub part_val : Val → ℕ → ℕ → ℕ → ℕ → Val
part_val s first stride rows cols = vstruct (vcons s (vcons (vint w64 first) (vcons (vint w64 stride) (vcons (vint w32 rows) (vcons (vint w32 cols) vnil)))))

-- a pair of values
abbrev pub pair_val : Val → Val → Val
pair_val u v = vstruct (vcons u (vcons v vnil))

module _ {M : Type 1} {𝓤 : Ura M} (𝓛 : Logic 𝓤) (a : NamedLft) where
  pub part_made : (p : PartMut) → p.first < 2 ^ 64 → p.stride < 2 ^ 64 → p.rows < 2 ^ 32 → p.cols < 2 ^ 32
      → ent 𝓤 (sem 𝓛 ((MutSlice a.mir a.lft u64).own_val p.entries (mut_slice_vals p.entries))) (sem 𝓛 ((the_row a).own_val p (lowered p ∷ [])))
  part_made p first stride rows cols = qed 𝓛 (‵ ((MutSlice a.mir a.lft u64).own_val p.entries (mut_slice_vals p.entries)) ∷ []) ∵
      nothing ! $ owned ! u32 _ (uint_Makes 𝓛 w32) p.cols _ (refl, cols) $ fjoin ! $ owned ! u32 _ (uint_Makes 𝓛 w32) p.rows _ (refl, rows) $ fjoin ! $
      owned ! usize _ (uint_Makes 𝓛 w64) p.stride _ (refl, stride) $ fjoin ! $ owned ! usize _ (uint_Makes 𝓛 w64) p.first _ (refl, first) $ fjoin ! $
      move ! (1 ∷ 0 ∷ []) $ fjoin ! $ feq_i ! (List Val) (lowered p ∷ []) (lowered p ∷ []) refl $ fjoin ! $
      fpack ! (Valss (Declared.fields (the_type a))) (within (Declared.shape (the_type a)) ((the_type a).to p) (lowered p ∷ [])) (mut_slice_vals p.entries, (vint w64 p.first ∷ [], (vint w64 p.stride ∷ [], (vint w32 p.rows ∷ [], (vint w32 p.cols ∷ [], tt))))) $ done !
