-- Texts that are appended piece by piece.
use Rattle.std.proofs.Common.{◌≡◌, ℕ, List, ◌++◌, refl, append_assoc}

-- three words with numbers behind them, and an end
pub joined_numbers : (out a x b y c z end one two three all : List ℕ) → one ≡ out ++ (a ++ x) → two ≡ one ++ (b ++ y) → three ≡ two ++ (c ++ z) → all ≡ three ++ end
    → all ≡ out ++ (a ++ x ++ b ++ y ++ c ++ z ++ end)
joined_numbers out a x b y c z end one two three all first second third last = rw (last, third, second, first) (simp append_assoc refl)

-- a word with a number behind it, a word with a name behind it, and an end
pub joined_name : (out a x b name end one two three all : List ℕ) → one ≡ out ++ (a ++ x) → two ≡ one ++ b → three ≡ two ++ name → all ≡ three ++ end
    → all ≡ out ++ (a ++ x ++ b ++ name ++ end)
joined_name out a x b name end one two three all first second third last = rw (last, third, second, first) (simp append_assoc refl)

-- a word with a number behind it, and an end
pub joined_number : (out a x end one all : List ℕ) → one ≡ out ++ (a ++ x) → all ≡ one ++ end → all ≡ out ++ (a ++ x ++ end)
joined_number out a x end one all first last = rw (last, first) (simp append_assoc refl)

-- a word and a number, a word with a number behind it, and an end
pub joined_counts : (out a x b y end one two three all : List ℕ) → one ≡ out ++ a → two ≡ one ++ x → three ≡ two ++ (b ++ y) → all ≡ three ++ end
    → all ≡ out ++ (a ++ x ++ b ++ y ++ end)
joined_counts out a x b y end one two three all first second third last = rw (last, third, second, first) (simp append_assoc refl)
