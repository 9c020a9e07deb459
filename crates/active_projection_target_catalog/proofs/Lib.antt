pub mod CatalogLaws
