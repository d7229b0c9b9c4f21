-- Identities that the meeting of two lines rests on.
use Rattle.std.proofs.Common.{◌≡◌, ℕ, ℤ, ◌+ℤ◌, ◌-ℤ◌, ◌*ℤ◌, neg_ℤ, arith}
use Rattle.int_laws.proofs.Ring.{diff, is_diff, same_diff, sum_diff, minus_diff, product_diff, neg_diff}
use borrow.Author.Differences.{up, down}

minus_scaled_diff : (f f' g g' a a' b b' m m' l l' : ℕ) →
    (((diff f f') *ℤ (diff b b')) -ℤ ((diff g g') *ℤ (diff a a'))) *ℤ ((diff m m') *ℤ (diff l l'))
    ≡ (((diff f f') *ℤ (diff m m')) *ℤ ((diff b b') *ℤ (diff l l')))
    -ℤ (((diff g g') *ℤ (diff l l')) *ℤ ((diff a a') *ℤ (diff m m')))
minus_scaled_diff f f' g g' a a' b b' m m' l l' = simp (minus_diff, product_diff) (same_diff _ _ _ _ (omega arith))

pub minus_scaled : (f g a b m l : ℤ) → ((f *ℤ b) -ℤ (g *ℤ a)) *ℤ (m *ℤ l)
    ≡ ((f *ℤ m) *ℤ (b *ℤ l)) -ℤ ((g *ℤ l) *ℤ (a *ℤ m))
minus_scaled f g a b m l =
    rw (is_diff f, is_diff g, is_diff a, is_diff b, is_diff m, is_diff l)
    (minus_scaled_diff (up f) (down f) (up g) (down g) (up a) (down a) (up b) (down b) (up m) (down m) (up l)
    (down l))

minus_gathered_diff : (n n' k k' a a' b b' m m' l l' : ℕ) →
    (((diff n n') *ℤ (diff a a')) *ℤ ((diff b b') *ℤ (diff l l')))
    -ℤ (((diff k k') *ℤ (diff b b')) *ℤ ((diff a a') *ℤ (diff m m')))
    ≡ (((diff n n') *ℤ (diff l l')) -ℤ ((diff k k') *ℤ (diff m m'))) *ℤ ((diff a a') *ℤ (diff b b'))
minus_gathered_diff n n' k k' a a' b b' m m' l l' = simp (minus_diff, product_diff) (same_diff _ _ _ _ (omega arith))

pub minus_gathered : (n k a b m l : ℤ) → ((n *ℤ a) *ℤ (b *ℤ l)) -ℤ ((k *ℤ b) *ℤ (a *ℤ m))
    ≡ ((n *ℤ l) -ℤ (k *ℤ m)) *ℤ (a *ℤ b)
minus_gathered n k a b m l =
    rw (is_diff n, is_diff k, is_diff a, is_diff b, is_diff m, is_diff l)
    (minus_gathered_diff (up n) (down n) (up k) (down k) (up a) (down a) (up b) (down b) (up m) (down m) (up l)
    (down l))

times_scaled_diff : (f f' g g' m m' l l' : ℕ) →
    ((diff f f') *ℤ (diff g g')) *ℤ ((diff m m') *ℤ (diff l l'))
    ≡ ((diff f f') *ℤ (diff m m')) *ℤ ((diff g g') *ℤ (diff l l'))
times_scaled_diff f f' g g' m m' l l' = simp product_diff (same_diff _ _ _ _ (omega arith))

pub times_scaled : (f g m l : ℤ) → (f *ℤ g) *ℤ (m *ℤ l) ≡ (f *ℤ m) *ℤ (g *ℤ l)
times_scaled f g m l =
    rw (is_diff f, is_diff g, is_diff m, is_diff l)
    (times_scaled_diff (up f) (down f) (up g) (down g) (up m) (down m) (up l) (down l))

step_between_diff : (p p' d d' n n' m m' k k' l l' : ℕ) →
    ((((diff p p') *ℤ (diff l l')) +ℤ ((diff k k') *ℤ (diff d d'))) *ℤ (diff m m'))
    -ℤ ((((diff p p') *ℤ (diff m m')) +ℤ ((diff n n') *ℤ (diff d d'))) *ℤ (diff l l'))
    ≡ (((diff k k') *ℤ (diff m m')) -ℤ ((diff n n') *ℤ (diff l l'))) *ℤ (diff d d')
step_between_diff p p' d d' n n' m m' k k' l l' = simp (minus_diff, product_diff, sum_diff)
    (same_diff _ _ _ _ (omega arith))

pub step_between : (p d n m k l : ℤ) → (((p *ℤ l) +ℤ (k *ℤ d)) *ℤ m) -ℤ (((p *ℤ m) +ℤ (n *ℤ d)) *ℤ l)
    ≡ ((k *ℤ m) -ℤ (n *ℤ l)) *ℤ d
step_between p d n m k l =
    rw (is_diff p, is_diff d, is_diff n, is_diff m, is_diff k, is_diff l)
    (step_between_diff (up p) (down p) (up d) (down d) (up n) (down n) (up m) (down m) (up k) (down k) (up l)
    (down l))

step_from_diff : (p p' q q' d d' e e' n n' m m' k k' l l' : ℕ) →
    ((((diff q q') *ℤ (diff l l')) +ℤ ((diff k k') *ℤ (diff e e'))) *ℤ (diff m m'))
    -ℤ ((((diff p p') *ℤ (diff m m')) +ℤ ((diff n n') *ℤ (diff d d'))) *ℤ (diff l l'))
    ≡ ((diff m m') *ℤ (((diff l l') *ℤ ((diff q q') -ℤ (diff p p'))) +ℤ ((diff k k') *ℤ (diff e e'))))
    -ℤ (((diff n n') *ℤ (diff l l')) *ℤ (diff d d'))
step_from_diff p p' q q' d d' e e' n n' m m' k k' l l' = simp (minus_diff, product_diff, sum_diff)
    (same_diff _ _ _ _ (omega arith))

pub step_from : (p q d e n m k l : ℤ) → (((q *ℤ l) +ℤ (k *ℤ e)) *ℤ m) -ℤ (((p *ℤ m) +ℤ (n *ℤ d)) *ℤ l)
    ≡ (m *ℤ ((l *ℤ (q -ℤ p)) +ℤ (k *ℤ e))) -ℤ ((n *ℤ l) *ℤ d)
step_from p q d e n m k l =
    rw (is_diff p, is_diff q, is_diff d, is_diff e, is_diff n, is_diff m, is_diff k, is_diff l)
    (step_from_diff (up p) (down p) (up q) (down q) (up d) (down d) (up e) (down e) (up n) (down n) (up m) (down m)
    (up k) (down k) (up l) (down l))

turn_from_diff : (dx dx' dy dy' cx cx' cy cy' m m' r r' : ℕ) →
    ((diff dx dx') *ℤ (((diff m m') *ℤ (diff cy cy')) -ℤ ((diff r r') *ℤ (diff dy dy'))))
    -ℤ ((diff dy dy') *ℤ (((diff m m') *ℤ (diff cx cx')) -ℤ ((diff r r') *ℤ (diff dx dx'))))
    ≡ (diff m m') *ℤ (((diff dx dx') *ℤ (diff cy cy')) -ℤ ((diff dy dy') *ℤ (diff cx cx')))
turn_from_diff dx dx' dy dy' cx cx' cy cy' m m' r r' = simp (minus_diff, product_diff)
    (same_diff _ _ _ _ (omega arith))

pub turn_from : (dx dy cx cy m r : ℤ) → (dx *ℤ ((m *ℤ cy) -ℤ (r *ℤ dy))) -ℤ (dy *ℤ ((m *ℤ cx) -ℤ (r *ℤ dx)))
    ≡ m *ℤ ((dx *ℤ cy) -ℤ (dy *ℤ cx))
turn_from dx dy cx cy m r =
    rw (is_diff dx, is_diff dy, is_diff cx, is_diff cy, is_diff m, is_diff r)
    (turn_from_diff (up dx) (down dx) (up dy) (down dy) (up cx) (down cx) (up cy) (down cy) (up m) (down m) (up r)
    (down r))

turn_parts_diff : (dx dx' dy dy' gx gx' gy gy' ex ex' ey ey' l l' k k' : ℕ) →
    ((diff dx dx') *ℤ (((diff l l') *ℤ (diff gy gy')) +ℤ ((diff k k') *ℤ (diff ey ey'))))
    -ℤ ((diff dy dy') *ℤ (((diff l l') *ℤ (diff gx gx')) +ℤ ((diff k k') *ℤ (diff ex ex'))))
    ≡ ((diff l l') *ℤ (((diff dx dx') *ℤ (diff gy gy')) -ℤ ((diff dy dy') *ℤ (diff gx gx'))))
    +ℤ ((diff k k') *ℤ (((diff dx dx') *ℤ (diff ey ey')) -ℤ ((diff dy dy') *ℤ (diff ex ex'))))
turn_parts_diff dx dx' dy dy' gx gx' gy gy' ex ex' ey ey' l l' k k' = simp (minus_diff, product_diff, sum_diff)
    (same_diff _ _ _ _ (omega arith))

pub turn_parts : (dx dy gx gy ex ey l k : ℤ)
    → (dx *ℤ ((l *ℤ gy) +ℤ (k *ℤ ey))) -ℤ (dy *ℤ ((l *ℤ gx) +ℤ (k *ℤ ex)))
    ≡ (l *ℤ ((dx *ℤ gy) -ℤ (dy *ℤ gx))) +ℤ (k *ℤ ((dx *ℤ ey) -ℤ (dy *ℤ ex)))
turn_parts dx dy gx gy ex ey l k =
    rw (is_diff dx, is_diff dy, is_diff gx, is_diff gy, is_diff ex, is_diff ey, is_diff l, is_diff k)
    (turn_parts_diff (up dx) (down dx) (up dy) (down dy) (up gx) (down gx) (up gy) (down gy) (up ex) (down ex) (up ey)
    (down ey) (up l) (down l) (up k) (down k))

area_parts_diff : (s s' dx dx' dy dy' nx nx' ny ny' m m' : ℕ) →
    ((((diff s s') *ℤ (diff dx dx')) *ℤ (diff ny ny')) *ℤ (diff m m'))
    -ℤ ((((diff s s') *ℤ (diff dy dy')) *ℤ (diff nx nx')) *ℤ (diff m m'))
    ≡ ((diff s s') *ℤ (((diff dx dx') *ℤ (diff ny ny')) -ℤ ((diff dy dy') *ℤ (diff nx nx')))) *ℤ (diff m m')
area_parts_diff s s' dx dx' dy dy' nx nx' ny ny' m m' = simp (minus_diff, product_diff)
    (same_diff _ _ _ _ (omega arith))

pub area_parts : (s dx dy nx ny m : ℤ) → (((s *ℤ dx) *ℤ ny) *ℤ m) -ℤ (((s *ℤ dy) *ℤ nx) *ℤ m)
    ≡ (s *ℤ ((dx *ℤ ny) -ℤ (dy *ℤ nx))) *ℤ m
area_parts s dx dy nx ny m =
    rw (is_diff s, is_diff dx, is_diff dy, is_diff nx, is_diff ny, is_diff m)
    (area_parts_diff (up s) (down s) (up dx) (down dx) (up dy) (down dy) (up nx) (down nx) (up ny) (down ny) (up m)
    (down m))

three_directions_diff : (px px' py py' qx qx' qy qy' dx dx' dy dy' ex ex' ey ey' : ℕ) →
    (((diff ex ex') *ℤ (diff dy dy')) -ℤ ((diff ey ey') *ℤ (diff dx dx'))) *ℤ ((diff qx qx') -ℤ (diff px px'))
    ≡ (neg_ℤ (((((diff qx qx') -ℤ (diff px px')) *ℤ (diff ey ey'))
    -ℤ (((diff qy qy') -ℤ (diff py py')) *ℤ (diff ex ex'))) *ℤ (diff dx dx')))
    -ℤ (((((diff px px') -ℤ (diff qx qx')) *ℤ (diff dy dy'))
    -ℤ (((diff py py') -ℤ (diff qy qy')) *ℤ (diff dx dx'))) *ℤ (diff ex ex'))
three_directions_diff px px' py py' qx qx' qy qy' dx dx' dy dy' ex ex' ey ey' = simp
    (neg_diff, product_diff, sum_diff) (same_diff _ _ _ _ (omega arith))

pub three_directions : (px py qx qy dx dy ex ey : ℤ)
    → ((ex *ℤ dy) -ℤ (ey *ℤ dx)) *ℤ (qx -ℤ px)
    ≡ (neg_ℤ ((((qx -ℤ px) *ℤ ey) -ℤ ((qy -ℤ py) *ℤ ex)) *ℤ dx)) -ℤ ((((px -ℤ qx) *ℤ dy) -ℤ ((py -ℤ qy) *ℤ dx)) *ℤ ex)
three_directions px py qx qy dx dy ex ey =
    rw (is_diff px, is_diff py, is_diff qx, is_diff qy, is_diff dx, is_diff dy, is_diff ex, is_diff ey)
    (three_directions_diff (up px) (down px) (up py) (down py) (up qx) (down qx) (up qy) (down qy) (up dx) (down dx)
    (up dy) (down dy) (up ex) (down ex) (up ey) (down ey))

three_directions_up_diff : (px px' py py' qx qx' qy qy' dx dx' dy dy' ex ex' ey ey' : ℕ) →
    (((diff ex ex') *ℤ (diff dy dy')) -ℤ ((diff ey ey') *ℤ (diff dx dx'))) *ℤ ((diff qy qy') -ℤ (diff py py'))
    ≡ (neg_ℤ (((((diff qx qx') -ℤ (diff px px')) *ℤ (diff ey ey'))
    -ℤ (((diff qy qy') -ℤ (diff py py')) *ℤ (diff ex ex'))) *ℤ (diff dy dy')))
    -ℤ (((((diff px px') -ℤ (diff qx qx')) *ℤ (diff dy dy'))
    -ℤ (((diff py py') -ℤ (diff qy qy')) *ℤ (diff dx dx'))) *ℤ (diff ey ey'))
three_directions_up_diff px px' py py' qx qx' qy qy' dx dx' dy dy' ex ex' ey ey' = simp
    (neg_diff, product_diff, sum_diff) (same_diff _ _ _ _ (omega arith))

pub three_directions_up : (px py qx qy dx dy ex ey : ℤ)
    → ((ex *ℤ dy) -ℤ (ey *ℤ dx)) *ℤ (qy -ℤ py)
    ≡ (neg_ℤ ((((qx -ℤ px) *ℤ ey) -ℤ ((qy -ℤ py) *ℤ ex)) *ℤ dy)) -ℤ ((((px -ℤ qx) *ℤ dy) -ℤ ((py -ℤ qy) *ℤ dx)) *ℤ ey)
three_directions_up px py qx qy dx dy ex ey =
    rw (is_diff px, is_diff py, is_diff qx, is_diff qy, is_diff dx, is_diff dy, is_diff ex, is_diff ey)
    (three_directions_up_diff (up px) (down px) (up py) (down py) (up qx) (down qx) (up qy) (down qy) (up dx)
    (down dx) (up dy) (down dy) (up ex) (down ex) (up ey) (down ey))

side_ahead_diff : (px px' py py' qx qx' qy qy' dx dx' dy dy' ex ex' ey ey' n n' m m' : ℕ) →
    ((diff m m') *ℤ (((diff ex ex') *ℤ ((diff py py') -ℤ (diff qy qy')))
    -ℤ ((diff ey ey') *ℤ ((diff px px') -ℤ (diff qx qx')))))
    +ℤ ((diff n n') *ℤ (((diff ex ex') *ℤ (diff dy dy')) -ℤ ((diff ey ey') *ℤ (diff dx dx'))))
    ≡ (((((diff qx qx') -ℤ (diff px px')) *ℤ (diff ey ey')) -ℤ (((diff qy qy') -ℤ (diff py py')) *ℤ (diff ex ex')))
    *ℤ (diff m m')) -ℤ ((diff n n') *ℤ (((diff dx dx') *ℤ (diff ey ey')) -ℤ ((diff dy dy') *ℤ (diff ex ex'))))
side_ahead_diff px px' py py' qx qx' qy qy' dx dx' dy dy' ex ex' ey ey' n n' m m' = simp
    (minus_diff, product_diff, sum_diff) (same_diff _ _ _ _ (omega arith))

pub side_ahead : (px py qx qy dx dy ex ey n m : ℤ)
    → (m *ℤ ((ex *ℤ (py -ℤ qy)) -ℤ (ey *ℤ (px -ℤ qx)))) +ℤ (n *ℤ ((ex *ℤ dy) -ℤ (ey *ℤ dx)))
    ≡ ((((qx -ℤ px) *ℤ ey) -ℤ ((qy -ℤ py) *ℤ ex)) *ℤ m) -ℤ (n *ℤ ((dx *ℤ ey) -ℤ (dy *ℤ ex)))
side_ahead px py qx qy dx dy ex ey n m =
    rw (
      is_diff px,
      is_diff py,
      is_diff qx,
      is_diff qy,
      is_diff dx,
      is_diff dy,
      is_diff ex,
      is_diff ey,
      is_diff n,
      is_diff m,
    )
    (side_ahead_diff (up px) (down px) (up py) (down py) (up qx) (down qx) (up qy) (down qy) (up dx) (down dx) (up dy)
    (down dy) (up ex) (down ex) (up ey) (down ey) (up n) (down n) (up m) (down m))

reach_parts_diff : (c c' p p' q q' d d' e e' n n' m m' k k' l l' : ℕ) →
    (diff c c') *ℤ (((((diff p p') *ℤ (diff m m')) +ℤ ((diff n n') *ℤ (diff d d'))) *ℤ (diff l l'))
    -ℤ ((((diff q q') *ℤ (diff l l')) +ℤ ((diff k k') *ℤ (diff e e'))) *ℤ (diff m m')))
    ≡ ((((diff n n') *ℤ (diff c c')) *ℤ ((diff l l') *ℤ (diff d d')))
    -ℤ (((diff m m') *ℤ (diff l l')) *ℤ ((diff c c') *ℤ ((diff q q') -ℤ (diff p p')))))
    -ℤ (((diff k k') *ℤ (diff c c')) *ℤ ((diff m m') *ℤ (diff e e')))
reach_parts_diff c c' p p' q q' d d' e e' n n' m m' k k' l l' = simp (minus_diff, product_diff, sum_diff)
    (same_diff _ _ _ _ (omega arith))

pub reach_parts : (c p q d e n m k l : ℤ)
    → c *ℤ ((((p *ℤ m) +ℤ (n *ℤ d)) *ℤ l) -ℤ (((q *ℤ l) +ℤ (k *ℤ e)) *ℤ m))
    ≡ (((n *ℤ c) *ℤ (l *ℤ d)) -ℤ ((m *ℤ l) *ℤ (c *ℤ (q -ℤ p)))) -ℤ ((k *ℤ c) *ℤ (m *ℤ e))
reach_parts c p q d e n m k l =
    rw (is_diff c, is_diff p, is_diff q, is_diff d, is_diff e, is_diff n, is_diff m, is_diff k, is_diff l)
    (reach_parts_diff (up c) (down c) (up p) (down p) (up q) (down q) (up d) (down d) (up e) (down e) (up n) (down n)
    (up m) (down m) (up k) (down k) (up l) (down l))

reach_gathered_diff : (t t' u u' d d' e e' m m' k k' l l' c c' : ℕ) →
    (((neg_ℤ ((diff t t') *ℤ (diff m m'))) *ℤ ((diff l l') *ℤ (diff d d')))
    -ℤ (((diff m m') *ℤ (diff l l')) *ℤ ((neg_ℤ ((diff t t') *ℤ (diff d d'))) -ℤ ((diff u u') *ℤ (diff e e')))))
    -ℤ (((diff k k') *ℤ (diff c c')) *ℤ ((diff m m') *ℤ (diff e e')))
    ≡ (diff m m') *ℤ ((diff e e') *ℤ (((diff u u') *ℤ (diff l l')) -ℤ ((diff k k') *ℤ (diff c c'))))
reach_gathered_diff t t' u u' d d' e e' m m' k k' l l' c c' = simp (neg_diff, product_diff, sum_diff)
    (same_diff _ _ _ _ (omega arith))

pub reach_gathered : (t u d e m k l c : ℤ)
    → (((neg_ℤ (t *ℤ m)) *ℤ (l *ℤ d)) -ℤ ((m *ℤ l) *ℤ ((neg_ℤ (t *ℤ d)) -ℤ (u *ℤ e)))) -ℤ ((k *ℤ c) *ℤ (m *ℤ e))
    ≡ m *ℤ (e *ℤ ((u *ℤ l) -ℤ (k *ℤ c)))
reach_gathered t u d e m k l c =
    rw (is_diff t, is_diff u, is_diff d, is_diff e, is_diff m, is_diff k, is_diff l, is_diff c)
    (reach_gathered_diff (up t) (down t) (up u) (down u) (up d) (down d) (up e) (down e) (up m) (down m) (up k)
    (down k) (up l) (down l) (up c) (down c))

both_ahead_diff : (c c' t t' n n' m m' k k' l l' : ℕ) →
    (diff c c') *ℤ (((diff k k') *ℤ (diff m m')) -ℤ ((diff n n') *ℤ (diff l l')))
    ≡ ((((diff t t') *ℤ (diff m m')) -ℤ ((diff n n') *ℤ (diff c c'))) *ℤ (diff l l'))
    -ℤ ((((diff t t') *ℤ (diff l l')) -ℤ ((diff k k') *ℤ (diff c c'))) *ℤ (diff m m'))
both_ahead_diff c c' t t' n n' m m' k k' l l' = simp (minus_diff, product_diff) (same_diff _ _ _ _ (omega arith))

pub both_ahead : (c t n m k l : ℤ) → c *ℤ ((k *ℤ m) -ℤ (n *ℤ l))
    ≡ (((t *ℤ m) -ℤ (n *ℤ c)) *ℤ l) -ℤ (((t *ℤ l) -ℤ (k *ℤ c)) *ℤ m)
both_ahead c t n m k l =
    rw (is_diff c, is_diff t, is_diff n, is_diff m, is_diff k, is_diff l)
    (both_ahead_diff (up c) (down c) (up t) (down t) (up n) (down n) (up m) (down m) (up k) (down k) (up l) (down l))

steps_apart_diff : (p p' d d' n n' m m' k k' l l' : ℕ) →
    ((((diff p p') *ℤ (diff m m')) +ℤ ((diff n n') *ℤ (diff d d'))) *ℤ (diff l l'))
    -ℤ ((((diff p p') *ℤ (diff l l')) +ℤ ((diff k k') *ℤ (diff d d'))) *ℤ (diff m m'))
    ≡ (((diff n n') *ℤ (diff l l')) -ℤ ((diff k k') *ℤ (diff m m'))) *ℤ (diff d d')
steps_apart_diff p p' d d' n n' m m' k k' l l' = simp (minus_diff, product_diff, sum_diff)
    (same_diff _ _ _ _ (omega arith))

pub steps_apart : (p d n m k l : ℤ) → (((p *ℤ m) +ℤ (n *ℤ d)) *ℤ l) -ℤ (((p *ℤ l) +ℤ (k *ℤ d)) *ℤ m)
    ≡ ((n *ℤ l) -ℤ (k *ℤ m)) *ℤ d
steps_apart p d n m k l =
    rw (is_diff p, is_diff d, is_diff n, is_diff m, is_diff k, is_diff l)
    (steps_apart_diff (up p) (down p) (up d) (down d) (up n) (down n) (up m) (down m) (up k) (down k) (up l) (down l))

over_one_diff : (a a' b b' f f' m m' l l' : ℕ) →
    (((diff a a') *ℤ (diff f f')) *ℤ (diff l l')) -ℤ (((diff b b') *ℤ (diff f f')) *ℤ (diff m m'))
    ≡ (((diff a a') *ℤ (diff l l')) -ℤ ((diff b b') *ℤ (diff m m'))) *ℤ (diff f f')
over_one_diff a a' b b' f f' m m' l l' = simp (minus_diff, product_diff) (same_diff _ _ _ _ (omega arith))

pub over_one : (a b f m l : ℤ) → ((a *ℤ f) *ℤ l) -ℤ ((b *ℤ f) *ℤ m) ≡ ((a *ℤ l) -ℤ (b *ℤ m)) *ℤ f
over_one a b f m l =
    rw (is_diff a, is_diff b, is_diff f, is_diff m, is_diff l)
    (over_one_diff (up a) (down a) (up b) (down b) (up f) (down f) (up m) (down m) (up l) (down l))

value_over_diff : (g g' a a' h h' m m' l l' : ℕ) →
    (((diff g g') *ℤ (diff m m')) -ℤ ((diff a a') *ℤ (diff h h'))) *ℤ (diff l l')
    ≡ (((diff g g') *ℤ (diff l l')) *ℤ (diff m m')) -ℤ (((diff a a') *ℤ (diff h h')) *ℤ (diff l l'))
value_over_diff g g' a a' h h' m m' l l' = simp (minus_diff, product_diff) (same_diff _ _ _ _ (omega arith))

pub value_over : (g a h m l : ℤ) → ((g *ℤ m) -ℤ (a *ℤ h)) *ℤ l ≡ ((g *ℤ l) *ℤ m) -ℤ ((a *ℤ h) *ℤ l)
value_over g a h m l =
    rw (is_diff g, is_diff a, is_diff h, is_diff m, is_diff l)
    (value_over_diff (up g) (down g) (up a) (down a) (up h) (down h) (up m) (down m) (up l) (down l))

cross_back_diff : (px px' py py' qx qx' qy qy' dx dx' dy dy' : ℕ) →
    neg_ℤ ((((diff px px') -ℤ (diff qx qx')) *ℤ (diff dy dy')) -ℤ (((diff py py') -ℤ (diff qy qy')) *ℤ (diff dx dx')))
    ≡ (((diff qx qx') -ℤ (diff px px')) *ℤ (diff dy dy')) -ℤ (((diff qy qy') -ℤ (diff py py')) *ℤ (diff dx dx'))
cross_back_diff px px' py py' qx qx' qy qy' dx dx' dy dy' = simp (neg_diff, product_diff, sum_diff)
    (same_diff _ _ _ _ (omega arith))

pub cross_back : (px py qx qy dx dy : ℤ)
    → neg_ℤ (((px -ℤ qx) *ℤ dy) -ℤ ((py -ℤ qy) *ℤ dx)) ≡ ((qx -ℤ px) *ℤ dy) -ℤ ((qy -ℤ py) *ℤ dx)
cross_back px py qx qy dx dy =
    rw (is_diff px, is_diff py, is_diff qx, is_diff qy, is_diff dx, is_diff dy)
    (cross_back_diff (up px) (down px) (up py) (down py) (up qx) (down qx) (up qy) (down qy) (up dx) (down dx) (up dy)
    (down dy))

reach_both_diff : (t t' u u' d d' e e' n n' m m' k k' l l' c c' : ℕ) →
    ((((diff n n') *ℤ (diff c c')) *ℤ ((diff l l') *ℤ (diff d d')))
    -ℤ (((diff m m') *ℤ (diff l l')) *ℤ (((diff t t') *ℤ (diff d d')) +ℤ ((diff u u') *ℤ (diff e e')))))
    -ℤ (((diff k k') *ℤ (diff c c')) *ℤ ((diff m m') *ℤ (diff e e')))
    ≡ neg_ℤ (((diff l l') *ℤ ((diff d d') *ℤ (((diff t t') *ℤ (diff m m')) -ℤ ((diff n n') *ℤ (diff c c')))))
    +ℤ ((diff m m') *ℤ ((diff e e') *ℤ (((diff u u') *ℤ (diff l l')) -ℤ ((diff k k') *ℤ (neg_ℤ (diff c c')))))))
reach_both_diff t t' u u' d d' e e' n n' m m' k k' l l' c c' = simp (neg_diff, product_diff, sum_diff)
    (same_diff _ _ _ _ (omega arith))

pub reach_both : (t u d e n m k l c : ℤ)
    → (((n *ℤ c) *ℤ (l *ℤ d)) -ℤ ((m *ℤ l) *ℤ ((t *ℤ d) +ℤ (u *ℤ e)))) -ℤ ((k *ℤ c) *ℤ (m *ℤ e))
    ≡ neg_ℤ ((l *ℤ (d *ℤ ((t *ℤ m) -ℤ (n *ℤ c)))) +ℤ (m *ℤ (e *ℤ ((u *ℤ l) -ℤ (k *ℤ (neg_ℤ c))))))
reach_both t u d e n m k l c =
    rw (is_diff t, is_diff u, is_diff d, is_diff e, is_diff n, is_diff m, is_diff k, is_diff l, is_diff c)
    (reach_both_diff (up t) (down t) (up u) (down u) (up d) (down d) (up e) (down e) (up n) (down n) (up m) (down m)
    (up k) (down k) (up l) (down l) (up c) (down c))

value_by_step_diff : (n n' f f' z z' d d' : ℕ) →
    (diff n n') *ℤ ((diff d d') *ℤ (diff f f'))
    ≡ (((diff z z') *ℤ ((diff d d') *ℤ (diff f f')))
    +ℤ (((diff n n') -ℤ ((diff z z') *ℤ (diff f f'))) *ℤ (diff d d'))) *ℤ (diff f f')
value_by_step_diff n n' f f' z z' d d' = simp (minus_diff, product_diff, sum_diff) (same_diff _ _ _ _ (omega arith))

pub value_by_step : (n f z d : ℤ) → n *ℤ (d *ℤ f) ≡ ((z *ℤ (d *ℤ f)) +ℤ ((n -ℤ (z *ℤ f)) *ℤ d)) *ℤ f
value_by_step n f z d =
    rw (is_diff n, is_diff f, is_diff z, is_diff d)
    (value_by_step_diff (up n) (down n) (up f) (down f) (up z) (down z) (up d) (down d))

value_by_step_turned_diff : (n n' f f' z z' d d' : ℕ) →
    (diff n n') *ℤ (neg_ℤ ((diff d d') *ℤ (diff f f')))
    ≡ (((diff z z') *ℤ (neg_ℤ ((diff d d') *ℤ (diff f f'))))
    +ℤ ((neg_ℤ ((diff n n') -ℤ ((diff z z') *ℤ (diff f f')))) *ℤ (diff d d'))) *ℤ (diff f f')
value_by_step_turned_diff n n' f f' z z' d d' = simp (neg_diff, product_diff, sum_diff)
    (same_diff _ _ _ _ (omega arith))

pub value_by_step_turned : (n f z d : ℤ)
    → n *ℤ (neg_ℤ (d *ℤ f)) ≡ ((z *ℤ (neg_ℤ (d *ℤ f))) +ℤ ((neg_ℤ (n -ℤ (z *ℤ f))) *ℤ d)) *ℤ f
value_by_step_turned n f z d =
    rw (is_diff n, is_diff f, is_diff z, is_diff d)
    (value_by_step_turned_diff (up n) (down n) (up f) (down f) (up z) (down z) (up d) (down d))
