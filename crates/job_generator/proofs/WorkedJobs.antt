-- Generated jobs, computed: the matrices of one of size 2 and of one of size 3, and the text of the first.
use Rattle.std.proofs.Common.{◌≡◌, ℕ, List, [], ◌∷◌, refl, codes}
use Rattle.std.specs.Fmt.{digits}
use Rattle.residue_sums.specs.Grids.{Grid}
use Rattle.job_text.specs.JobTexts.{job_text}
use Rattle.job_generator.specs.GeneratedOperations.{prod, lu, solve}
use Rattle.job_generator.specs.GeneratedJobs.{factors, right_side, generated_job}

abbrev square : ℕ → List ℕ → Grid
square n entries = record { rows = n; cols = n; entries = entries }

factors_of_two : factors 2 101 1 ≡ square 2 (1 ∷ 48 ∷ 38 ∷ 1 ∷ [])
factors_of_two = refl

right_side_of_two : right_side 2 101 1 ≡ square 2 (38 ∷ 68 ∷ 34 ∷ 74 ∷ [])
right_side_of_two = refl

factors_of_three : factors 3 1000 123456 ≡ square 3 (1 ∷ 557 ∷ 572 ∷ 845 ∷ 1 ∷ 692 ∷ 272 ∷ 920 ∷ 1 ∷ [])
factors_of_three = refl

right_side_of_three : right_side 3 1000 123456 ≡ square 3 (761 ∷ 853 ∷ 607 ∷ 544 ∷ 320 ∷ 410 ∷ 566 ∷ 304 ∷ 967 ∷ [])
right_side_of_three = refl

text_of_two : job_text (generated_job 2 101 1) ≡ codes "flame 1\nmodulus 101\noperation prod\ndims n\nwork W general n n\nknown L unitlower n n\nknown U upper n n\nequation X = W + L * U\nend\noperation lu\ndims n\nwork W general n n\nequation lu X = W\nend\noperation ulow\ndims n m\nwork W general n m\nknown T unitlower n n\nequation T * X = W\nend\noperation upp\ndims n m\nwork W general n m\nknown T upper n n\nequation T * X = W\nend\nmatrix F 2 2\n1 48\n38 1\nend\nmatrix S 2 2\n0 0\n0 0\nend\nmatrix B 2 2\n38 68\n34 74\nend\ndo prod S F F\ndo lu S\ndo ulow B S\ndo upp B S\nprint S\nprint B\n"
unfolding digits generated_job prod lu solve
text_of_two = refl
