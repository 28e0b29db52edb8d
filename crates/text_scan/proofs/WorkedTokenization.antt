-- Tokens that aren't those of a text: a name that is cut in two, and what is behind a comment left out.
use Rattle.std.proofs.Common.{◌≡◌, ℕ, ◌+◌, inl, inr, true, false, [], ◌∷◌, get_or, codes, refl, sym, ap, ◌∙◌, arith}
use Rattle.std.proofs.lemmas.Bool.{cases_lt}
use Rattle.std.proofs.lemmas.List.Elements.{All-nil, All-cons, All-contains}
use Rattle.text_scan.specs.declared.token.Token.{Token}
use Rattle.text_scan.specs.declared.token.TokenKind.TheVariants.{Name}
use Rattle.text_scan.specs.Tokenization.{IsInComment, IsInSome, AreAllTokens}

-- a name of one byte on the first line
letter : ℕ → Token
letter at = record { kind = Name; start = at; len = 1; line = 1 }

-- AB is one name
cut_in_two : AreAllTokens (codes "AB") (letter 0 ∷ letter 1 ∷ []) → ⊥
unfolding letter
cut_in_two all = let stops : true ≡ false = (all.whole 0 (letter 0) (omega arith)).stops (omega arith) in absurd cc

-- B stands behind the comment
behind_comment : IsInComment (codes "A#\nB") 3 → ⊥
behind_comment comment = elim (cases_lt 2 comment.from) [
  | inl last ↦
      let there : comment.from ≡ 3 = omega (arith, comment.before) in
      let hash : ◌≡◌ {A = ℕ} 66 35 = ap (λ j. get_or (codes "A#\nB") j 0) (sym there) ∙ comment.hash in absurd (omega arith)
  | inr before ↦ comment.same_line 2 before (omega arith) refl
]

-- A ends before it
one_byte : IsInSome (letter 0 ∷ []) 3 → ⊥
unfolding letter
one_byte some =
    let short : some.token.start + some.token.len ≡ 1 = All-contains (λ t. t.start + t.len ≡ 1) (letter 0 ∷ []) some.token (All-cons (λ t. t.start + t.len ≡ 1) (letter 0) [] refl (All-nil _)) some.one in
    absurd (omega (arith, some.inside.before_end))

-- so B is missing
left_out : AreAllTokens (codes "A#\nB") (letter 0 ∷ []) → ⊥
unfolding letter
left_out all = elim (all.covered 3 (omega arith)) [
  | inl some ↦ one_byte some
  | inr other ↦ elim other [
    | inl blank ↦ let stops : false ≡ true = blank in absurd cc
    | inr comment ↦ behind_comment comment
  ]
]
