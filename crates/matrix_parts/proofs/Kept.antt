-- What calls that write to a part keep, one after another.
use Rattle.std.proofs.Common.{refl, ◌∙◌}
use Rattle.matrix_parts.specs.declared.part_mut.PartMut.{PartMut}
use Rattle.matrix_parts.specs.Lent.{IsKept}

pub IsKept-same : (p : PartMut) → IsKept p p
IsKept-same p = record { first = refl; stride = refl; rows = refl; cols = refl; len = refl; around = λ at h. refl }

pub IsKept-then : (p q r : PartMut) → IsKept p q → IsKept q r → IsKept p r
IsKept-then p q r one two = record {
  first = two.first ∙ one.first;
  stride = two.stride ∙ one.stride;
  rows = two.rows ∙ one.rows;
  cols = two.cols ∙ one.cols;
  len = two.len ∙ one.len;
  around = λ at h. two.around at (λ i j row col. rw (one.first, one.stride) (h i j (rw one.rows at row) (rw one.cols at col))) ∙ one.around at h;
}
