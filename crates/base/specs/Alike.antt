-- How far the pages behind a page are like it.
use Rattle.std.specs.Prelude.{◌≡◌, ℕ, ◌<◌, ◌≤◌}

-- what is said of the page holds of all pages from it up to the end, which is no further than the limit
pub record IsAlikeUntil {A : Type 0} (f : ℕ → A) (page limit end : ℕ) : Type 0 where
  pub behind : page < end
  pub inside : end ≤ limit
  pub alike : (n : ℕ) → page ≤ n → n < end → f n ≡ f page
