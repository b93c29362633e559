use Rattle.screen_lines.proofs.Listing.{IsListing-bytes_of}
use Rattle.screen_lines.proofs.laws.screen_sends_lines.Goals as goal

pub returns : goal.returns
returns c = IsListing-bytes_of
