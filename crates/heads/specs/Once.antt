-- NO OTHER WORDS hold the same: what a contract says of the head, the ticket, the rectangle or the size that words hold, it says of every word.
-- Assumes nothing.
use Rattle.std.specs.Prelude.{◌≡◌, List, ℕ, zero, suc, ◌<◌, ◌^◌, length, get_or}
use Rattle.std.proofs.Common.{sym, ap, ◌∙◌, arith, ext_get_or}
use Rattle.std.specs.Int.{w32}
use Rattle.std.proofs.Math.Facts.{to_z_inj}
use Rattle.geometry.specs.declared.Rectangle.{Rectangle}
use Rattle.geometry.specs.declared.Size.{Size}
use Rattle.tickets.specs.declared.AllocId.{AllocId}
use Rattle.steps.specs.declared.Head.{Head}
use Rattle.heads.specs.Words.{signed_of, size_at, head_at, ticket_at, rect_at}

-- So many words of 32 bits.
pub record Table (n : ℕ) (l : List ℕ) : Type 0 where
  pub long : length l ≡ n
  pub word : (i : ℕ) → get_or l i 0 < 2 ^ 32

-- Two words with one signed reading are the same.
signed_once : (v w : List ℕ) (m n i : ℕ) → Table m v → Table n w → signed_of (get_or v i 0) ≡ signed_of (get_or w i 0) → get_or v i 0 ≡ get_or w i 0
unfolding signed_of
signed_once v w m n i a b e = to_z_inj {w = w32} (record { fits = a.word i }) (record { fits = b.word i }) e

-- Tables that agree at each word are the same.
agree : {n : ℕ} (v w : List ℕ) → Table n v → Table n w → ((i : ℕ) → i < n → get_or v i 0 ≡ get_or w i 0) → v ≡ w
agree v w a b f = ext_get_or 0 v w (a.long ∙ sym b.long) (λ i h. f i (let k = a.long in omega arith))

-- The twelve words of a head.
pub head_once : (v w : List ℕ) → Table 12 v → Table 12 w → head_at v ≡ head_at w → v ≡ w
unfolding head_at
head_once v w a b e = agree v w a b at
  where
    at : (i : ℕ) → i < 12 → get_or v i 0 ≡ get_or w i 0
    at zero h = signed_once v w 12 12 0 a b (ap (λ (h : Head). h.sheet.width) e)
    at (suc zero) h = signed_once v w 12 12 1 a b (ap (λ (h : Head). h.sheet.height) e)
    at (suc (suc zero)) h = signed_once v w 12 12 2 a b (ap (λ (h : Head). h.options.alignment.width) e)
    at (suc (suc (suc zero))) h = signed_once v w 12 12 3 a b (ap (λ (h : Head). h.options.alignment.height) e)
    at (suc (suc (suc (suc zero)))) h = signed_once v w 12 12 4 a b (ap (λ (h : Head). h.options.small) e)
    at (suc (suc (suc (suc (suc zero))))) h = signed_once v w 12 12 5 a b (ap (λ (h : Head). h.options.large) e)
    at (suc (suc (suc (suc (suc (suc zero)))))) h = ap (λ (h : Head). h.root.0) e
    at (suc (suc (suc (suc (suc (suc (suc zero))))))) h = ap (λ (h : Head). h.spare.0) e
    at (suc (suc (suc (suc (suc (suc (suc (suc zero)))))))) h = ap (λ (h : Head). h.count) e
    at (suc (suc (suc (suc (suc (suc (suc (suc (suc zero))))))))) h = ap (λ (h : Head). h.lengths.small) e
    at (suc (suc (suc (suc (suc (suc (suc (suc (suc (suc zero)))))))))) h = ap (λ (h : Head). h.lengths.medium) e
    at (suc (suc (suc (suc (suc (suc (suc (suc (suc (suc (suc zero))))))))))) h = ap (λ (h : Head). h.lengths.large) e
    at (suc (suc (suc (suc (suc (suc (suc (suc (suc (suc (suc (suc i)))))))))))) h = absurd (omega arith)

-- The five of a ticket and its rectangle, the four of a rectangle, the two of a size.
pub crop_once : (v w : List ℕ) → Table 5 v → Table 5 w → ticket_at v ≡ ticket_at w → rect_at 1 v ≡ rect_at 1 w → v ≡ w
unfolding ticket_at rect_at
crop_once v w a b t e = agree v w a b at
  where
    at : (i : ℕ) → i < 5 → get_or v i 0 ≡ get_or w i 0
    at zero h = ap (λ (h : AllocId). h.0) t
    at (suc zero) h = ap (λ (r : Rectangle). r.x0) e
    at (suc (suc zero)) h = ap (λ (r : Rectangle). r.y0) e
    at (suc (suc (suc zero))) h = ap (λ (r : Rectangle). r.x1) e
    at (suc (suc (suc (suc zero)))) h = ap (λ (r : Rectangle). r.y1) e
    at (suc (suc (suc (suc (suc i))))) h = absurd (omega arith)

pub rect_once : (v w : List ℕ) → Table 4 v → Table 4 w → rect_at 0 v ≡ rect_at 0 w → v ≡ w
unfolding rect_at
rect_once v w a b e = agree v w a b at
  where
    at : (i : ℕ) → i < 4 → get_or v i 0 ≡ get_or w i 0
    at zero h = ap (λ (r : Rectangle). r.x0) e
    at (suc zero) h = ap (λ (r : Rectangle). r.y0) e
    at (suc (suc zero)) h = ap (λ (r : Rectangle). r.x1) e
    at (suc (suc (suc zero))) h = ap (λ (r : Rectangle). r.y1) e
    at (suc (suc (suc (suc i)))) h = absurd (omega arith)

pub size_once : (v w : List ℕ) → Table 2 v → Table 2 w → size_at 0 v ≡ size_at 0 w → v ≡ w
size_once v w a b e = agree v w a b at
  where
    at : (i : ℕ) → i < 2 → get_or v i 0 ≡ get_or w i 0
    at zero h = signed_once v w 2 2 0 a b (ap (λ (s : Size). s.width) e)
    at (suc zero) h = signed_once v w 2 2 1 a b (ap (λ (s : Size). s.height) e)
    at (suc (suc i)) h = absurd (omega arith)
