-- What the contracts of `code_pages` say.
pub use Rattle.code_pages.specs.Pages
pub use Rattle.code_pages.specs.Letters
